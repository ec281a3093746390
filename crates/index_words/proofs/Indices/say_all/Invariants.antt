use Rattle.std.proofs.Common.{◌≡◌, take}
use Rattle.sums.specs.Index.{index_of}
use Rattle.writer.specs.Writing.{room, added}
use Rattle.index_words.specs.Indices.{indices_words}
use Rattle.index_words.proofs.Indices.say_all.Given as goal

abbrev pub invariant-loop-meaning : goal.invariant-loop-meaning
invariant-loop-meaning l = l.line ≡ added room l.initial.line (indices_words l.self.counts (index_of l.self.place) (take l.meaning-index l.meanings))
