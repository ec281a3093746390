-- The laws of what is read off capped sums. Callers cite these, and open no definition of `specs/Compared.antt`.
--
-- A law's name is FACT-FUNCTION where it gives the function's answer from the fact, and FUNCTION-ANSWER where it gives the fact from the
-- answer. No law rests on what number `limit` is. Assumes nothing.
use mathlib.Core.Path.{◌≡◌, refl, sym, ap, ◌∙◌}
use mathlib.Core.Bool.{true, false, cond, ◌&&◌}
use mathlib.Core.Logic.{◌⊎◌, inl, inr, ⊎_elim}
use Prim.Native.Nat.{ℕ, ◌+◌, ◌-◌, ◌<◌, ◌≤◌, zero-le}
use native.Mathlib.Nat.{add-zero, eq-or-lt_of_le}
use native.Mathlib.Omega.{arith}
use lib.Dec.{leb, ltb}
use borrow.Author.Tests.{le-leb, lt-leb, lt-ltb, le-ltb, ltb-true, ltb-false}
use Rattle.std.specs.Prelude.{Option, Some, None, Ok, Err}
use Rattle.std.specs.declared.cmp.Ordering.{Ordering}
use Rattle.std.specs.declared.cmp.Ordering.TheVariants.{Less, Equal, Greater}
use Rattle.std.specs.Ordering.{nat_cmp}
use Rattle.std.specs.Cmp.{nat_cmp_is}
use Rattle.std.specs.Option.{SomeIff, ok_or}
use Rattle.compared.specs.declared.NoBalance.TheVariants.{BelowZero, Unsure}
use Rattle.capped.specs.Cap.{Sum, limit, cap}
use Rattle.capped.proofs.Laws.{Capped, cap-high, cap-low, capped, high, le-or-lt, low}
use Rattle.compared.specs.Compared.{Balance, order, over, minus, net_of}

-- Whether a sum is over

pub over-cap : (n : ℕ) → over (cap n) ≡ ltb limit n
unfolding over
over-cap n = go (capped n)
  where
    go : {s : Sum} → Capped n s → over s ≡ ltb limit n
    go (low h) = sym (le-ltb limit n h)
    go (high h) = sym (lt-ltb limit n h)

pub over-true : (n : ℕ) → over (cap n) ≡ true → limit < n
over-true n e = ltb-true limit n (sym (over-cap n) ∙ e)

pub over_false : (n : ℕ) → over (cap n) ≡ false → n ≤ limit
over_false n e = ltb-false limit n (sym (over-cap n) ∙ e)

-- What a sum says of the exact number n.
abbrev pub Tells : Sum → ℕ → Type 0
Tells (Some v) n = (v ≡ n) × (n ≤ limit)
Tells None n = limit < n

pub told-tells : (n : ℕ) → Tells (cap n) n
told-tells n = go (capped n)
  where
    go : {s : Sum} → Capped n s → Tells s n
    go (low h) = (refl, h)
    go (high h) = h

pub told-exactly : (n v : ℕ) → cap n ≡ Some v → (v ≡ n) × (n ≤ limit)
told-exactly n v e = rw e at (told-tells n)

pub told-above : (n : ℕ) → cap n ≡ None → limit < n
told-above n e = rw e at (told-tells n)

-- The order of two sums. The first three are of two numbers.

module _ (v w : ℕ) where
  pub lt-cmp : v < w → nat_cmp v w ≡ Less
  lt-cmp h = sym (nat_cmp_is v w Less h)

  pub gt-cmp : w < v → nat_cmp v w ≡ Greater
  gt-cmp h = sym (nat_cmp_is v w Greater h)

  pub eq-cmp : v ≡ w → nat_cmp v w ≡ Equal
  eq-cmp h = sym (nat_cmp_is v w Equal h)

pub lt_order : (m n : ℕ) → m < n → m ≤ limit → order (cap m) (cap n) ≡ Some Less
unfolding order
lt_order m n h l = rw (cap-low m l) (go (capped n))
  where
    go : {t : Sum} → Capped n t → order (Some m) t ≡ Some Less
    go (low k) = rw (lt-cmp m n h)
    go (high k) = refl

pub eq-order : (m : ℕ) → m ≤ limit → order (cap m) (cap m) ≡ Some Equal
unfolding order
eq-order m l = rw (cap-low m l, eq-cmp m m refl)

pub gt-order : (m n : ℕ) → n < m → n ≤ limit → order (cap m) (cap n) ≡ Some Greater
unfolding order
gt-order m n h l = rw (cap-low n l) (go (capped m))
  where
    go : {s : Sum} → Capped m s → order s (Some n) ≡ Some Greater
    go (low k) = rw (gt-cmp m n h)
    go (high k) = refl

pub high-order : (m n : ℕ) → limit < m → limit < n → order (cap m) (cap n) ≡ None
unfolding order
high-order m n h k = rw (cap-high m h, cap-high n k)

-- What each answer says of the exact sums m and n.
abbrev pub Orders : Option Ordering → ℕ → ℕ → Type 0
Orders (Some Less) m n = (m < n) × (m ≤ limit)
Orders (Some Equal) m n = (m ≡ n) × (m ≤ limit)
Orders (Some Greater) m n = (n < m) × (n ≤ limit)
Orders None m n = (limit < m) × (limit < n)

rank-orders : {m n : ℕ} → m ≤ limit → n ≤ limit → Orders (Some (nat_cmp m n)) m n
rank-orders {m} {n} h k = ⊎_elim upto (λ (p : n < m). rw (gt-cmp m n p) (p, k)) (le-or-lt m n)
  where
    upto : m ≤ n → Orders (Some (nat_cmp m n)) m n
    upto q =
        ⊎_elim (λ (p : m ≡ n). rw (eq-cmp m n p) (p, h)) (λ (p : m < n). rw (lt-cmp m n p) (p, h)) (eq-or-lt_of_le q)

pub order-orders : (m n : ℕ) → Orders (order (cap m) (cap n)) m n
unfolding order
order-orders m n = go (capped m) (capped n)
  where
    go : {s t : Sum} → Capped m s → Capped n t → Orders (order s t) m n
    go (low h) (low k) = rank-orders h k
    go (low h) (high k) = (omega arith, h)
    go (high h) (low k) = (omega arith, k)
    go (high h) (high k) = (h, k)

pub order-less : (m n : ℕ) → order (cap m) (cap n) ≡ Some Less → m < n
order-less m n e = (rw e at (order-orders m n)).0

pub order-equal : (m n : ℕ) → order (cap m) (cap n) ≡ Some Equal → (m ≡ n) × (m ≤ limit)
order-equal m n e = rw e at (order-orders m n)

pub order-greater : (m n : ℕ) → order (cap m) (cap n) ≡ Some Greater → n < m
order-greater m n e = (rw e at (order-orders m n)).0

pub order-unknown : (m n : ℕ) → order (cap m) (cap n) ≡ None → (limit < m) × (limit < n)
order-unknown m n e = rw e at (order-orders m n)

-- The balance a + b - c. The first three are of exact sums; what the code of `subtract` finds are `unsure_subtract` and `sure_subtract`.

module _ (a b c : ℕ) where
  pub unsure_subtract : (limit < a) ⊎ ((a ≤ limit) × (limit < b)) → Err Unsure ≡ net_of (Some a) (Some b) (Some c)
  unfolding net_of
  unsure_subtract (inl h) = rw (lt-leb a limit h)
  unsure_subtract (inr h) = rw (le-leb a limit h.0, lt-leb b limit h.1)

  pub lt-subtract : a ≤ limit → b ≤ limit → a + b < c → Err BelowZero ≡ net_of (Some a) (Some b) (Some c)
  unfolding net_of
  lt-subtract h k p = rw (le-leb a limit h, le-leb b limit k, lt-ltb (a + b) c p)

  pub le-subtract : a ≤ limit → b ≤ limit → c ≤ a + b → Ok (a + b - c) ≡ net_of (Some a) (Some b) (Some c)
  unfolding net_of
  le-subtract h k p = rw (le-leb a limit h, le-leb b limit k, le-ltb (a + b) c p)

  pub sure_subtract : (left : Option ℕ) → a ≤ limit → b ≤ limit → SomeIff left (c ≤ a + b) (a + b - c)
      → ok_or left BelowZero ≡ net_of (Some a) (Some b) (Some c)
  sure_subtract (Some v) h k s = ap (λ (n : ℕ). Ok n) s.1 ∙ le-subtract h k s.0
  sure_subtract None h k s = ⊎_elim (λ (p : c ≤ a + b). absurd (s p)) (λ (p : a + b < c). lt-subtract h k p) (le-or-lt c (a + b))

  pub lt-net : a ≤ limit → b ≤ limit → c ≤ limit → a + b < c → net_of (cap a) (cap b) (cap c) ≡ Err BelowZero
  lt-net h k l p = rw (cap-low a h, cap-low b k, cap-low c l) (sym (lt-subtract h k p))

  pub le-net : a ≤ limit → b ≤ limit → c ≤ limit → c ≤ a + b → net_of (cap a) (cap b) (cap c) ≡ Ok (a + b - c)
  le-net h k l p = rw (cap-low a h, cap-low b k, cap-low c l) (sym (le-subtract h k p))

  -- the whole of it: exact where all three are within the limit
  pub net-cap : net_of (cap a) (cap b) (cap c) ≡ cond (leb a limit && (leb b limit && leb c limit)) (minus (a + b) c) (Err Unsure)
  unfolding net_of
  net-cap = go (capped a) (capped b) (capped c)
    where
      go : {s t u : Sum} → Capped a s → Capped b t → Capped c u
          → net_of s t u ≡ cond (leb a limit && (leb b limit && leb c limit)) (minus (a + b) c) (Err Unsure)
      go (high h) k l = rw (lt-leb a limit h)
      go (low h) (high k) l = rw (le-leb a limit h, lt-leb b limit k)
      go (low h) (low k) (high l) = rw (le-leb a limit h, le-leb b limit k, lt-leb c limit l)
      go (low h) (low k) (low l) = rw (le-leb a limit h, le-leb b limit k, le-leb c limit l)

  -- What each answer says of the exact sums a, b and c.
  pub record Within : Type 0 where
    pub first : a ≤ limit
    pub second : b ≤ limit
    pub taken : c ≤ limit

  abbrev pub Nets : Balance → Type 0
  Nets (Ok v) = (v + c ≡ a + b) × Within
  Nets (Err BelowZero) = (a + b < c) × Within
  Nets (Err Unsure) = (limit < a) ⊎ ((limit < b) ⊎ (limit < c))

  subtract-nets : Within → Nets (net_of (Some a) (Some b) (Some c))
  subtract-nets w =
      ⊎_elim (λ (p : c ≤ a + b). rw (← le-subtract w.first w.second p) (omega arith, w))
      (λ (p : a + b < c). rw (← lt-subtract w.first w.second p) (p, w)) (le-or-lt c (a + b))

  pub net-nets : Nets (net_of (cap a) (cap b) (cap c))
  unfolding net_of
  net-nets = go (capped a) (capped b) (capped c)
    where
      go : {s t u : Sum} → Capped a s → Capped b t → Capped c u → Nets (net_of s t u)
      go (high h) k l = inl h
      go (low h) (high k) l = inr (inl k)
      go (low h) (low k) (high l) = inr (inr l)
      go (low h) (low k) (low l) = subtract-nets (record { first = h; second = k; taken = l })

  pub net-is : (v : ℕ) → net_of (cap a) (cap b) (cap c) ≡ Ok v → (v + c ≡ a + b) × Within
  net-is v e = rw e at net-nets

  pub net-below : net_of (cap a) (cap b) (cap c) ≡ Err BelowZero → (a + b < c) × Within
  net-below e = rw e at net-nets

  pub net-unsure : net_of (cap a) (cap b) (cap c) ≡ Err Unsure → (limit < a) ⊎ ((limit < b) ⊎ (limit < c))
  net-unsure e = rw e at net-nets

-- `net_of s (cap 0) t` is the difference of s and t.

pub le-difference : (m n : ℕ) → m ≤ limit → n ≤ m → net_of (cap m) (cap 0) (cap n) ≡ Ok (m - n)
le-difference m n h p = le-net m 0 n h zero-le (omega arith) (omega arith) ∙ rw (add-zero m)

pub lt-difference : (m n : ℕ) → n ≤ limit → m < n → net_of (cap m) (cap 0) (cap n) ≡ Err BelowZero
lt-difference m n h p = lt-net m 0 n (omega arith) zero-le h (omega arith)
