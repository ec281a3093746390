use mathlib.Core.Path.{◌≡◌}
use Prim.Native.Nat.{ℕ, ◌+◌, ◌*◌, ◌≤◌}
use lib.ListN.{length, drop}
use Rattle.std.specs.Prelude.{Some}
use Rattle.std.specs.Slice.Iter.{chunks_exact_rest, chunks_exact_size}
use Rattle.texts.specs.Format.{word_length, numbers, after}
use Rattle.texts.proofs.lines.join.Given as goal

-- i numbers came, and the bytes behind them are left
abbrev pub invariant-loop-number : goal.invariant-loop-number
invariant-loop-number g l =
    record {
      goes : (goal.iterator-loop-number g).can_next l.number-iterator;
      size : chunks_exact_size l.number-iterator ≡ g.T.FromDigits.DIGITS + 1;
      i : ℕ;
      inside : word_length + i * (g.T.FromDigits.DIGITS + 1) ≤ length l.line;
      left : chunks_exact_rest l.number-iterator ≡ drop (word_length + i * (g.T.FromDigits.DIGITS + 1)) l.line;
      upto : length l.numbers.items ≡ length l.initial.numbers.items + i;
      so : after l.initial.numbers.items (numbers g.T.FromDigits.value g.T.FromDigits.DIGITS l.line i) ≡ Some l.numbers.items;
    }
