use Rattle.sentences.proofs.Laws.{plant-low}
use Rattle.answer_words.proofs.say_body.Goals as goal

pub say_storage-requires : goal.say_storage-requires
say_storage-requires c = plant-low _ _ (rw c.in-Storage.is at c.requires)
