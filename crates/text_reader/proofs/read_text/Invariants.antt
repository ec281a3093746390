use mathlib.Core.Path.{◌≡◌}
use Prim.Native.Nat.{◌+◌}
use Rattle.std.specs.Slice.Iter.{split_inclusive_rest}
use Rattle.texts.specs.Format.{lines, read_lines}
use Rattle.texts.specs.Numbers.{lists_in}
use Rattle.text_reader.proofs.read_text.Given as goal

-- the lines that are left, read on behind the numbers that came before, say what the text says
abbrev pub invariant-loop-before : goal.invariant-loop-before
invariant-loop-before l =
    read_lines (lines (split_inclusive_rest l.before-iterator.iter)) (l.before-iterator.count + 1) (lists_in l.numbers) ≡ read_lines (lines l.text) 1 (lists_in l.initial.numbers)
