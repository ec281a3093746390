-- The member that has the number n is the n-th of the list of all members, and no other has it. Assumes nothing.
use mathlib.Core.Path.{◌≡◌, refl, sym, ap, ◌∙◌, subst}
use mathlib.Core.Logic.{⊎_elim}
use mathlib.Core.List.{List, [], ◌∷◌, ◌++◌}
use Prim.Native.Nat.{ℕ, zero, suc, ◌+◌, ◌-◌, ◌≤◌, ◌<◌}
use native.Mathlib.Omega.{arith}
use lib.ListN.{length, get_or, length-append, length-map, get_or-append}
use lib.Seq.{get_or-append-add}
use Rattle.capped.proofs.Laws.{le-or-lt}
use Rattle.sums.specs.declared.Box.{Box}
use Rattle.sums.specs.Span.{Span, one, each, joined, listing, In, up_from}
use Rattle.sums.specs.Index.{Index, index, count, number, members, Member}
use Rattle.sums.proofs.Indices.{in-member}
use Rattle.sums.proofs.Numbering.{numbered, number_bound, number-injective}
use Rattle.model.specs.declared.Counts.{Counts}
use Rattle.model.specs.Data.{table_boxes, place_of}
use Rattle.tables.proofs.Laws.{get_or-map-in}
use Rattle.places.specs.Numbers.{member_at}

module _ {A : Type 0} (P : A → Type 0) (d : A) where
  -- what holds of the entries of two lists holds of the entries of the two in one
  append-all : (a b : List A) → ((p : ℕ) → p < length a → P (get_or a p d)) → ((p : ℕ) → p < length b → P (get_or b p d))
      → (p : ℕ) → p < length (a ++ b) → P (get_or (a ++ b) p d)
  append-all a b h g p l =
      ⊎_elim
      (λ (q : length a ≤ p).
      let e : length a + (p - length a) ≡ p = omega arith in
      subst (λ (v : ℕ). P (get_or (a ++ b) v d)) e (subst P (sym (get_or-append-add a b (p - length a) d)) (g (p - length a) (omega (arith, length-append a b)))))
      (λ (q : p < length a). subst P (sym (get_or-append a b d p q)) (h p q)) (le-or-lt (length a) p)

  joined-all : (n : ℕ) (L : ℕ → List A) → ((i : ℕ) → i < n → (p : ℕ) → p < length (L i) → P (get_or (L i) p d))
      → (p : ℕ) → p < length (joined n L) → P (get_or (joined n L) p d)
  unfolding joined
  joined-all zero L h p l = absurd (omega arith)
  joined-all (suc n) L h p l = append-all (joined n L) (L n) (joined-all n L (λ i b. h i (omega arith))) (h n (omega arith)) p l

  -- what holds of all members holds of each that is listed
  listed-all : (s : Span A) → ((k : A) → In s k → P k) → (p : ℕ) → p < length (listing s) → P (get_or (listing s) p d)
  listed-all (one k) h zero l = h k refl
  listed-all (one k) h (suc p) l = absurd (omega arith)
  listed-all (each n B) h p l = joined-all n (λ i. listing (B i)) (λ i b. listed-all (B i) (λ k m. h k (i, b, m))) p l

up_from-length : (a m : ℕ) → length (up_from a m) ≡ m
unfolding up_from
up_from-length a zero = refl
up_from-length a (suc m) = omega (arith, length-append (up_from a m) ((a + m) ∷ []), up_from-length a m)

up_from-at : (a m n : ℕ) → n < m → get_or (up_from a m) n 0 ≡ a + n
unfolding up_from
up_from-at a zero n l = absurd (omega arith)
up_from-at a (suc m) n l =
    ⊎_elim
    (λ (q : m ≤ n).
    let e : length (up_from a m) + 0 ≡ n = omega (arith, up_from-length a m) in
    let same : m ≡ n = omega arith in
    subst (λ (v : ℕ). get_or (up_from a m ++ ((a + m) ∷ [])) v 0 ≡ a + n) e (get_or-append-add (up_from a m) ((a + m) ∷ []) 0 0 ∙ ap (λ (v : ℕ). a + v) same))
    (λ (q : n < m). get_or-append (up_from a m) ((a + m) ∷ []) 0 n (omega (arith, up_from-length a m)) ∙ up_from-at a m n q) (le-or-lt m n)

module _ (boxes : List Box) where
  listed : length (listing (members boxes)) ≡ count boxes
  listed = sym (length-map (listing (members boxes)) (number boxes)) ∙ ap length (numbered boxes) ∙ up_from-length 0 (count boxes)

  member-number : (n : ℕ) → n < count boxes → number boxes (member_at boxes n) ≡ n
  unfolding member_at
  member-number n l =
      sym (get_or-map-in (number boxes) (listing (members boxes)) (index 0 0 0 0 0) 0 n (omega (arith, listed)))
      ∙ ap (λ (v : List ℕ). get_or v n 0) (numbered boxes) ∙ up_from-at 0 (count boxes) n l ∙ omega arith

  pub member-is-at : (n : ℕ) (i : Index) → Member boxes i → number boxes i ≡ n → i ≡ member_at boxes n
  unfolding member_at
  member-is-at n i m e =
      let l : n < count boxes = omega (arith, number_bound boxes i m) in
      let member = listed-all (Member boxes) (index 0 0 0 0 0) (members boxes) (in-member boxes) n (omega (arith, listed)) in
      number-injective boxes i (member_at boxes n) m member (e ∙ sym (member-number n l))

-- the same of an entry, by its place in the data list
pub entry-is-at : (c : Counts) (place : ℕ) (i : Index) → Member (table_boxes c) i → place_of c i ≡ place → i ≡ member_at (table_boxes c) (place - 7)
unfolding place_of
entry-is-at c place i m e = member-is-at (table_boxes c) (place - 7) i m (omega (arith, e))
