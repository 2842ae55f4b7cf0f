-- Laws of the lines.
use Rattle.std.specs.Prelude.{◌≡◌, ◌≢◌, ℕ, List, ◌∷◌, ◌++◌}
use Rattle.std.specs.List.{AllByRecursion}
use Rattle.ct_core.specs.Settlement.{Log}
use Rattle.ct_lines.specs.Frozen.{frozen_reply, frozen_replies}
use Rattle.ct_lines.specs.Serving.{reply_if}

-- The replies to an input that starts with a line and its end are the line's own reply, or none if the line is empty, followed by the
-- replies to the rest.
abbrev pub RepliesByLines : Type 0
RepliesByLines =
    (log : Log) (line rest : List ℕ) → AllByRecursion (λ b. b ≢ 10) line
    → frozen_replies log (line ++ 10 ∷ rest) ≡ reply_if (frozen_reply log) line ++ frozen_replies log rest
