-- Linear expressions as they are printed: terms, sums over a range, sums of two, and parts that stand under a condition.
use Rattle.std.specs.Prelude.{Bool, ℕ, ◌+◌, ◌*◌, ◌<◌, ◌≡◌, true, eqb}
use Rattle.sums.specs.Sum.{sum, on}
use Rattle.sums.specs.Index.{Index, index}

infixl 60 ◌⊕◌
infix 70 ◌·◌
pub data Linear : Type 0 where
  nothing : Linear
  ◌·◌ : ℕ → Index → Linear
  ∑ : ℕ → (ℕ → Linear) → Linear
  ◌⊕◌ : Linear → Linear → Linear
  when : Bool → Linear → Linear

-- its value where each index has the value x
abbrev pub value : Linear → (Index → ℕ) → ℕ
value nothing x = 0
value (a · c) x = a * x c
value (∑ n e) x = sum n (λ i. value (e i) x)
value (d ⊕ e) x = value d x + value e x
value (when b e) x = on b (value e x)

-- a where the two indices are the same, else 0
abbrev pub same : Index → Index → ℕ → ℕ
same (index k y i j s) (index l z g h t) a = on (eqb k l) (on (eqb y z) (on (eqb i g) (on (eqb j h) (on (eqb s t) a))))

-- the coefficient that an index has in it, like terms brought together
abbrev pub coefficient : Linear → Index → ℕ
coefficient nothing c = 0
coefficient (a · d) c = same d c a
coefficient (∑ n e) c = sum n (λ i. coefficient (e i) c)
coefficient (d ⊕ e) c = coefficient d c + coefficient e c
coefficient (when b e) c = on b (coefficient e c)

-- every index in it satisfies P
abbrev pub Mentions : (Index → Type 0) → Linear → Type 0
Mentions P nothing = Unit {0}
Mentions P (a · c) = P c
Mentions P (∑ n e) = (i : ℕ) → i < n → Mentions P (e i)
Mentions P (d ⊕ e) = Mentions P d × Mentions P e
Mentions P (when b e) = b ≡ true → Mentions P e
