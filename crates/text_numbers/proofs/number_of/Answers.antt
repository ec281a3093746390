use borrow.Author.Rules.{rules}
use mathlib.Core.Path.{sym, refl, ◌∙◌}
use native.Mathlib.Omega.{arith}
use Rattle.text_numbers.specs.Numbers.{with_digit}
use Rattle.text_numbers.proofs.NumberLaws.{digit-low, next-low, read-whole}
use Rattle.text_numbers.proofs.number_of.Goals as goal

pub try_fold-requires-clause-callable : goal.try_fold-requires-clause-callable
unfolding with_digit
try_fold-requires-clause-callable c = record {
  at = λ xs t q x u y f s.
      let low = next-low _ c.args.digits.now (λ p x q h. search rules) c.requires xs _ t _ q c.iter.ensures.rest refl y f s in (
        (λ k r g a m b. record { fits = omega (arith, low) }),
        λ k r g a m b d w e i j v. record { fits = omega (arith, low, digit-low x.now i.0.0 (sym d.ensures ∙ j)) },
      );
}

pub returns : goal.returns
unfolding with_digit
returns c =
    read-whole _ c.args.digits.now (λ p x q h. search rules) (λ x h. (search rules, search rules)) _ _ _ _ _ _ _ c.iter.ensures.rest refl
    c.try_fold.ensures.ran.4.1 c.try_fold.ensures.ran.4.2 c.try_fold.ensures.ran.5 c.try_fold.ensures.ran.6
