-- The text of the frozen log, line by line.
use Rattle.std.proofs.Common.{◌≡◌, ℕ, List, [], ◌∷◌, ◌++◌, Bool, cond, sym, ap, ◌∙◌, append_assoc, append-nil}
use Rattle.std.specs.List.{AllByRecursion}
use Rattle.std.specs.Prelude.{◌≢◌}
use Rattle.ct_lines.specs.Frozen.{replies, frozen_reply}
use Rattle.json_lines.specs.Lines.{lines_behind, lines_of}
use Rattle.ct_lines.specs.Laws.{RepliesByLines}
use Rattle.ct_lines.proofs.Pieces.{line_first, not_ten}

first_line : (start line rest : List ℕ) → AllByRecursion (λ b. b ≢ 10) line → lines_behind start (line ++ 10 ∷ rest) ≡ (start ++ line) ∷ lines_of rest
first_line start [] rest h = ap (λ l. l ∷ lines_of rest) (sym (append-nil start))
first_line start (b ∷ bs) rest h =
    ap (λ (t : Bool). cond t (start ∷ lines_of (bs ++ 10 ∷ rest)) (lines_behind (start ++ b ∷ []) (bs ++ 10 ∷ rest))) (not_ten b h.0)
    ∙ first_line (start ++ b ∷ []) bs rest h.1
    ∙ ap (λ l. l ∷ lines_of rest) (append_assoc start (b ∷ []) bs)

pub replies_by_lines : RepliesByLines
replies_by_lines log line rest h = ap (λ ls. replies (frozen_reply log) ls) (first_line [] line rest h) ∙ line_first (frozen_reply log) line (lines_of rest)
