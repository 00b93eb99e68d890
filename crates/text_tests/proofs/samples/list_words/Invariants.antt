use Rattle.std.proofs.Common.{◌≡◌, map, take}
use Rattle.text_tests.proofs.samples.list_words.Given as goal

abbrev pub invariant-loop-word : goal.invariant-loop-word
invariant-loop-word l = map (λ word. word.items) l.list.items ≡ map (λ word. word.now) (take l.word-index l.words)
