-- What is proved of the definitions, as statements; the proofs are in proofs/.
-- Beside these: Printed.antt (each family reads as documents 01 and 02 print it) and Standing.antt (the rows of each kind of column).
use Rattle.std.specs.Prelude.{◌≡◌, Bool, false, true, ◌&&◌, List, map, ℕ, ◌+◌, ◌*◌, ◌-◌, ◌≤◌, ◌<◌, ℤ, pos, ◌-ℤ◌, ◌*ℤ◌, ◌≤ℤ◌, Ok, Err}
use Rattle.sums.specs.Sum.{sum}
use Rattle.sums.specs.Span.{listing, up_from, total, fine, fault}
use Rattle.sums.specs.declared.Box.{Box}
use Rattle.sums.specs.Index.{Index, members, Member, number, count}
use Rattle.sums.specs.Linear.{coefficient, value}
use Rattle.sums.specs.Duality.{Holds}
use Rattle.model.specs.declared.Refusal.{Refusal}
use Rattle.model.specs.declared.Refusal.TheVariants.{Storage}
use Rattle.model.specs.Counts.{Counts}
use Rattle.model.specs.Data.{Data, read, table_boxes, demand, peak, tl, is_battery, is_vre, efficiency, line_limit, line_annuity, lowest_limit, hour, Z, G, Q, Y, S}
use Rattle.model.specs.Columns.{column_boxes, column_number, entries, cap, build, retire, gen, reserve, trans, unmet, surplus, spinshort, firmshort, charge, level, built_lines, total_lines}
use Rattle.model.specs.Families.{Equation, others_sum, rows, row_boxes, row, equation, equal}
use Rattle.model.specs.Earlier.{earlier_firm, earlier_equation}
use Rattle.model.specs.Tests.{head_fault, counts_fault, length_fault, entries_fault, data_fault, above, below, constant⁺, constant⁻, m⁺, m⁻, constants⁺, constants⁻}
use Rattle.model.specs.Prices.{year_weight, price, cost}
use Rattle.model.specs.Calls.{check, certify, cost_of, post, posted, issued}
use Rattle.model.specs.Rival.{Rival, Bounds, Binds, RivalPlan, Cheaper}
use Rattle.model.specs.Station.{Case, run, cases, first_case, station, plan_of, multipliers_of}
use Rattle.model.specs.Standing.{Placed}

-- the ten cases of the one-plant station, over certify itself
abbrev pub TenCases : Type 0
TenCases = map run cases ≡ map (λ (k : Case). k.outcome) cases

-- the first of them as the answer itself
abbrev pub FirstAnswer : Type 0
FirstAnswer = certify station first_case.scale (plan_of first_case) (multipliers_of first_case) ≡ issued 40000000000 0

-- demand 3: whatever certify answers, where it issues a certificate this binds every rival plan at every scale
abbrev pub Demand3 : Type 0
Demand3 = (l : List ℕ) (N : ℕ) (plan : List ℕ) (ms : List ℤ) → Binds l N (certify l N plan ms)

-- the same in document 01's words: N·cost(rival) ≥ M·(cost − gap), where answered cost less answered gap may be below zero
abbrev pub ListedRivals : Type 0
ListedRivals =
    (l : List ℕ) (N : ℕ) (plan : List ℕ) (ms : List ℤ) (c g : ℕ) → certify l N plan ms ≡ issued c g
    → (M : ℕ) → 1 ≤ M → (rival : List ℕ) → RivalPlan l M rival
    → (pos M *ℤ (pos c -ℤ pos g)) ≤ℤ (pos N *ℤ pos (cost_of l rival))

-- a plan that check accepts is a rival plan at its own scale: what is proved of every rival plan holds of it
abbrev pub AcceptedMeets : Type 0
AcceptedMeets = (l : List ℕ) (N : ℕ) (plan : List ℕ) (c : ℕ) → check l N plan ≡ Ok c → Rival (read l) N (entries (read l) plan)

-- where the answered gap is 0 no rival plan is cheaper
abbrev pub NoneCheaper : Type 0
NoneCheaper =
    (l : List ℕ) (N : ℕ) (plan : List ℕ) (ms : List ℤ) (c : ℕ) → certify l N plan ms ≡ issued c 0
    → (M : ℕ) → 1 ≤ M → (rival : List ℕ) → RivalPlan l M rival → Cheaper l N c M rival → ⊥

-- M = 1 is among the scales that `Bounds` speaks of
abbrev pub AtScaleOne : Type 0
AtScaleOne = (D : Data) (N c g : ℕ) → Bounds D N c g → (x : Index → ℕ) → Rival D 1 x → c ≤ N * cost D x + g

-- the bound is reached and no higher one holds: the plan itself is a rival plan at M = N, its cost is at the bound, and it refutes a cost larger by one
pub record Sharp (l : List ℕ) (N : ℕ) (plan : List ℕ) (c g : ℕ) : Type 0 where
  pub rival : RivalPlan l N plan
  pub reached : N * c ≡ N * cost_of l plan + N * g
  pub highest : Bounds (read l) N (c + 1) g → ⊥

-- so it is wherever the answered gap is 0
abbrev pub SharpBound : Type 0
SharpBound = (l : List ℕ) (N : ℕ) (plan : List ℕ) (ms : List ℤ) (c : ℕ) → certify l N plan ms ≡ issued c 0 → Sharp l N plan c 0

-- and such an answer is given: at the station's first case, with N = 1
pub record SharpStation : Type 0 where
  pub answered : FirstAnswer
  pub sharp : Sharp station 1 (plan_of first_case) 40000000000 0

-- the answered gap is cost + N·Σ m·k with nothing cut off
abbrev pub WholeGap : Type 0
WholeGap =
    (l : List ℕ) (N : ℕ) (plan : List ℕ) (ms : List ℤ) (c g : ℕ) → certify l N plan ms ≡ issued c g
    → g + N * constants⁻ (read l) ms ≡ c + N * constants⁺ (read l) ms

-- on a refusal post leaves the board as it was
abbrev pub KeptBoard : Type 0
KeptBoard =
    (l : List ℕ) (N : ℕ) (plan : List ℕ) (y : ℕ) (board : List ℕ) (start : ℕ) (r : Refusal)
    → post l N plan y board start ≡ Err r → posted l N plan y board start ≡ board

-- no column stands in one row with both signs, so the two sums are those of one coefficient per column
abbrev pub OneSign : Type 0
OneSign =
    (D : Data) (r c : Index) → Member (row_boxes D.counts) r
    → coefficient (equation D r).positive c * coefficient (equation D r).negative c ≡ 0

-- a row has one constant: of its two parts one is 0, and their difference is what the equation adds less what it takes off
pub record OneConstant (D : Data) (r : Index) : Type 0 where
  pub one : constant⁺ D r * constant⁻ D r ≡ 0
  pub net : constant⁺ D r + (equation D r).minus ≡ constant⁻ D r + (equation D r).plus

-- data that passes the tests places every plant in a zone and gives it a fuel
abbrev pub SoundPlaces : Type 0
SoundPlaces = (l : List ℕ) → data_fault l ≡ fine → Placed (read l)

-- listed in order, the numbers are 0, 1, 2, .. without gaps
abbrev pub Numbered : List Box → Type 0
Numbered boxes = map (number boxes) (listing (members boxes)) ≡ up_from 0 (count boxes)

pub record Numbers (c : Counts) : Type 0 where
  pub rows : Numbered (row_boxes c)
  pub columns : Numbered (column_boxes c)
  pub entries : Numbered (table_boxes c)

-- the columns' numbers as a reader works them out
pub record ColumnNumbers (D : Data) : Type 0 where
  pub of_cap : (y g : ℕ) → column_number D (cap y g) ≡ y * G D + g
  pub of_build : (y g : ℕ) → column_number D (build y g) ≡ Y D * G D + (y * G D + g)
  pub of_retire : (y g : ℕ) → column_number D (retire y g) ≡ 2 * (Y D * G D) + (y * G D + g)
  pub of_gen : (y g s : ℕ) → column_number D (gen y g s) ≡ 3 * (Y D * G D) + ((y * G D + g) * S D + s)
  pub of_reserve : (y g s : ℕ) → column_number D (reserve y g s) ≡ 3 * (Y D * G D) + Y D * G D * S D + ((y * G D + g) * S D + s)
  pub of_trans : (y z w s : ℕ) → column_number D (trans y z w s)
      ≡ 3 * (Y D * G D) + 2 * (Y D * G D * S D) + (((y * Z D + z) * Z D + w) * S D + s)
  pub of_unmet : (y z s : ℕ) → column_number D (unmet y z s)
      ≡ 3 * (Y D * G D) + 2 * (Y D * G D * S D) + Y D * Z D * Z D * S D + ((y * Z D + z) * S D + s)
  pub of_surplus : (y z s : ℕ) → column_number D (surplus y z s)
      ≡ 3 * (Y D * G D) + 2 * (Y D * G D * S D) + Y D * Z D * Z D * S D + Y D * Z D * S D + ((y * Z D + z) * S D + s)
  pub of_spinshort : (y z s : ℕ) → column_number D (spinshort y z s)
      ≡ 3 * (Y D * G D) + 2 * (Y D * G D * S D) + Y D * Z D * Z D * S D + 2 * (Y D * Z D * S D) + ((y * Z D + z) * S D + s)
  pub of_firmshort : (y z : ℕ) → column_number D (firmshort y z)
      ≡ 3 * (Y D * G D) + 2 * (Y D * G D * S D) + Y D * Z D * Z D * S D + 3 * (Y D * Z D * S D) + (y * Z D + z)
  pub of_charge : (y g s : ℕ) → column_number D (charge y g s)
      ≡ 3 * (Y D * G D) + 2 * (Y D * G D * S D) + Y D * Z D * Z D * S D + 3 * (Y D * Z D * S D) + Y D * Z D + ((y * G D + g) * S D + s)
  pub of_level : (y g s : ℕ) → column_number D (level y g s)
      ≡ 3 * (Y D * G D) + 3 * (Y D * G D * S D) + Y D * Z D * Z D * S D + 3 * (Y D * Z D * S D) + Y D * Z D + ((y * G D + g) * S D + s)
  pub of_built_lines : (y z w : ℕ) → column_number D (built_lines y z w)
      ≡ 3 * (Y D * G D) + 4 * (Y D * G D * S D) + Y D * Z D * Z D * S D + 3 * (Y D * Z D * S D) + Y D * Z D + ((y * Z D + z) * Z D + w)
  pub of_total_lines : (y z w : ℕ) → column_number D (total_lines y z w)
      ≡ 3 * (Y D * G D) + 4 * (Y D * G D * S D) + Y D * Z D * Z D * S D + 3 * (Y D * Z D * S D) + Y D * Z D + Y D * Z D * Z D + ((y * Z D + z) * Z D + w)

-- Batteries, request (i)

-- what refusal 16 at plant g says: all of refusal 3 passed, g is a battery and has VRE set, and no plant below it is such
pub record VreBattery (D : Data) (g : ℕ) : Type 0 where
  pub in_range : entries_fault D ≡ fine
  pub plant : g < G D
  pub battery : is_battery D g ≡ true
  pub vre : is_vre D g ≡ true
  pub lowest : (h : ℕ) → h < g → (is_battery D h && is_vre D h) ≡ false

-- where the data are refused with 16, this is so
abbrev pub StorageRefused : Type 0
StorageRefused = (l : List ℕ) (g : ℕ) → data_fault l ≡ fault (Storage g) → VreBattery (read l) g

-- and where it is so, and refusals 1 and 2 pass, the data are refused with 16 at that plant
abbrev pub StorageGiven : Type 0
StorageGiven =
    (l : List ℕ) (g : ℕ) → head_fault l ≡ fine → counts_fault l ≡ fine → length_fault l ≡ fine → VreBattery (read l) g → data_fault l ≡ fault (Storage g)

-- a plant of that year and slice neither charges nor holds energy
pub record Uncharged (x : Index → ℕ) (y g s : ℕ) : Type 0 where
  pub no_charge : x (charge y g s) ≡ 0
  pub no_level : x (level y g s) ≡ 0

-- a plant that is no battery has charge and level 0 in every plan that meets the rows: a rival is any such plan, at any scale
abbrev pub NoBattery : Type 0
NoBattery =
    (D : Data) (M : ℕ) (x : Index → ℕ) → Rival D M x → (y g s : ℕ) → y < Y D → g < G D → s < S D
    → is_battery D g ≡ false → Uncharged x y g s

-- and in every plan that check accepts
abbrev pub NoBatteryAccepted : Type 0
NoBatteryAccepted =
    (l : List ℕ) (N : ℕ) (plan : List ℕ) (c : ℕ) → check l N plan ≡ Ok c
    → (y g s : ℕ) → y < Y (read l) → g < G (read l) → s < S (read l) → is_battery (read l) g ≡ false → Uncharged (entries (read l) plan) y g s

-- a battery starts each day empty: what it holds after a day's first hour is efficiency ‰ of what that hour charged, less what it gave
abbrev pub EmptyAtMidnight : Type 0
EmptyAtMidnight =
    (D : Data) (M : ℕ) (x : Index → ℕ) → Rival D M x → (y g s : ℕ) → y < Y D → g < G D → s < S D
    → hour D s ≡ 0 → is_battery D g ≡ true → x (level y g s) + 1000 * x (gen y g s) ≡ efficiency D g * x (charge y g s)

-- so the level of a day's first hour does not depend on the day before: two plans with the same charge and output in that hour have the same level there
-- (a plan in Mths and one in Lths have the same amount where L times the one's entry is M times the other's)
abbrev pub DaysApart : Type 0
DaysApart =
    (D : Data) (M L : ℕ) (x w : Index → ℕ) → Rival D M x → Rival D L w → (y g s : ℕ) → y < Y D → g < G D → s < S D
    → hour D s ≡ 0 → L * x (charge y g s) ≡ M * w (charge y g s) → L * x (gen y g s) ≡ M * w (gen y g s) → L * x (level y g s) ≡ M * w (level y g s)

-- Cables, request (ii): in every plan that meets the rows, which may build fractions of a line

-- total is the sum of the builds up to the year
abbrev pub LinesBuilt : Type 0
LinesBuilt =
    (D : Data) (M : ℕ) (x : Index → ℕ) → Rival D M x → (y z w : ℕ) → y < Y D → z < Z D → w < Z D
    → x (total_lines y z w) ≡ sum (y + 1) (λ v. x (built_lines v z w))

-- it is the same in both directions of a pair
abbrev pub LinesAlike : Type 0
LinesAlike =
    (D : Data) (M : ℕ) (x : Index → ℕ) → Rival D M x → (y z w : ℕ) → y < Y D → z < Z D → w < Z D
    → x (total_lines y z w) ≡ x (total_lines y w z)

-- and at most the line limit, in Mths as the plan is
abbrev pub LinesLimited : Type 0
LinesLimited =
    (D : Data) (M : ℕ) (x : Index → ℕ) → Rival D M x → (y z w : ℕ) → y < Y D → z < Z D → w < Z D
    → x (total_lines y z w) ≤ M * line_limit D z w

-- no line is built within one zone, over data that pass the tests
pub record Unbuilt (x : Index → ℕ) (y z : ℕ) : Type 0 where
  pub no_built : x (built_lines y z z) ≡ 0
  pub no_total : x (total_lines y z z) ≡ 0

abbrev pub NoLineWithin : Type 0
NoLineWithin =
    (l : List ℕ) → data_fault l ≡ fine → (M : ℕ) (x : Index → ℕ) → Rival (read l) M x → (y z : ℕ) → y < Y (read l) → z < Z (read l) → Unbuilt x y z

-- lines count neither in (21) nor in (64): they have no coefficient in a row of family 4 or 18
pub record Uncounted (D : Data) (c : Index) : Type 0 where
  pub firm⁺ : (y z : ℕ) → coefficient (equation D (row 4 y z 0 0)).positive c ≡ 0
  pub firm⁻ : (y z : ℕ) → coefficient (equation D (row 4 y z 0 0)).negative c ≡ 0
  pub capital⁺ : coefficient (equation D (row 18 0 0 0 0)).positive c ≡ 0
  pub capital⁻ : coefficient (equation D (row 18 0 0 0 0)).negative c ≡ 0

abbrev pub LinesUncounted : Type 0
LinesUncounted = (D : Data) (y z w : ℕ) → Uncounted D (built_lines y z w) × Uncounted D (total_lines y z w)

-- what the lines of one direction, and those of a pair, cost in a year
abbrev pub lines_cost : Data → (Index → ℕ) → ℕ → ℕ → ℕ → ℕ
lines_cost D x y z w = price D (built_lines y z w) * x (built_lines y z w) + price D (total_lines y z w) * x (total_lines y z w)

abbrev pub pair_cost : Data → (Index → ℕ) → ℕ → ℕ → ℕ → ℕ
pair_cost D x y z w = lines_cost D x y z w + lines_cost D x y w z

-- a pair pays in a year W·annuity of the lower zone's direction times its total, once, in every plan
abbrev pub PairPaysOnce : Type 0
PairPaysOnce =
    (D : Data) (x : Index → ℕ) (y z w : ℕ) → z < w
    → pair_cost D x y z w ≡ year_weight D y * line_annuity D z w * x (total_lines y z w)

-- A cable in its weakest season, request (iv)

-- in (21) each link into zone z counts once, with a share that is at most each of its seasons' limits and is one of them
pub record LinkShares (D : Data) (y z : ℕ) : Type 0 where
  pub counted : (equation D (row 4 y z 0 0)).plus ≡ 1000 * others_sum D z (λ u. lowest_limit D y u z)
  pub lowest : (u q : ℕ) → q < Q D → lowest_limit D y u z ≤ tl D y u z q
  pub reached : (u : ℕ) → 0 < Q D → (q : ℕ) × (q < Q D) × (tl D y u z q ≡ lowest_limit D y u z)

-- a plan in Mths meets a row: Σ a·entry + M·k is 0 or more, in an equality 0
abbrev pub Met : Bool → Equation → ℕ → (Index → ℕ) → Type 0
Met e f M x = Holds e (value f.negative x + M * f.minus) (value f.positive x + M * f.plus)

-- (21) asks at least as much as the earlier row: its terms are the same and its links count for no more, so a plan that meets it met the earlier one
pub record AsksNoLess (D : Data) (y z : ℕ) : Type 0 where
  pub positive : (equation D (row 4 y z 0 0)).positive ≡ (earlier_firm D y z).positive
  pub negative : (equation D (row 4 y z 0 0)).negative ≡ (earlier_firm D y z).negative
  pub links : (equation D (row 4 y z 0 0)).plus ≤ (earlier_firm D y z).plus
  pub asked : (equation D (row 4 y z 0 0)).minus ≡ (earlier_firm D y z).minus
  pub met : (M : ℕ) (x : Index → ℕ) → Holds (equal (row 4 y z 0 0)) (below D M x (row 4 y z 0 0)) (above D M x (row 4 y z 0 0)) → Met (equal (row 4 y z 0 0)) (earlier_firm D y z) M x

-- so every plan that meets the rows met all the earlier ones
abbrev pub MeetsEarlier : Type 0
MeetsEarlier = (D : Data) (M : ℕ) (x : Index → ℕ) → Rival D M x → (r : Index) → Member (row_boxes D.counts) r → Met (equal r) (earlier_equation D r) M x

-- where there is one season every row is the earlier one
abbrev pub OneSeason : Type 0
OneSeason = (D : Data) → Q D ≡ 1 → (r : Index) → equation D r ≡ earlier_equation D r

-- the terms m·k of all rows, by sign, with the earlier (21)
abbrev pub earlier_constants⁺ : Data → List ℤ → ℕ
earlier_constants⁺ D ms =
    total (rows D) (λ r. m⁺ D ms r * ((earlier_equation D r).plus - (earlier_equation D r).minus) + m⁻ D ms r * ((earlier_equation D r).minus - (earlier_equation D r).plus))

abbrev pub earlier_constants⁻ : Data → List ℤ → ℕ
earlier_constants⁻ D ms =
    total (rows D) (λ r. m⁺ D ms r * ((earlier_equation D r).minus - (earlier_equation D r).plus) + m⁻ D ms r * ((earlier_equation D r).plus - (earlier_equation D r).minus))

-- old multipliers tried anew: where certify accepts them with a plan, the gap is at most what cost + N·Σ m·k came to for the same plan with the earlier (21)
abbrev pub GapNoLarger : Type 0
GapNoLarger =
    (l : List ℕ) (N : ℕ) (plan : List ℕ) (ms : List ℤ) (c g : ℕ) → certify l N plan ms ≡ issued c g
    → (earlier : ℕ) → earlier + N * earlier_constants⁻ (read l) ms ≡ c + N * earlier_constants⁺ (read l) ms → g ≤ earlier

-- the peak is the largest Demand of the year and zone: none is above it, and it is one of them
pub record IsPeak (D : Data) (y z : ℕ) : Type 0 where
  pub highest : (s : ℕ) → s < S D → demand D y z s ≤ peak D y z
  pub reached : 0 < S D → (s : ℕ) × (s < S D) × (demand D y z s ≡ peak D y z)
