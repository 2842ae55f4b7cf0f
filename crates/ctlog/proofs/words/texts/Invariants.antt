use Rattle.std.proofs.Common.{◌≡◌, map, take, string_bytes}
use Rattle.ctlog.proofs.words.texts.Given as goal

abbrev pub invariant-loop-word : goal.invariant-loop-word
invariant-loop-word l = map (λ w. w.now) l.texts.items ≡ map string_bytes (take l.word-index l.words)
