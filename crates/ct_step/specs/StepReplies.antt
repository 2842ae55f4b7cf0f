-- The bytes of the replies, in the presentation language of RFC 5246 (section 4). Each vector's length has 8 bytes.
use Rattle.std.specs.Prelude.{◌≡◌, ◌++◌, ℕ, List, Result, Ok, Err}
use Rattle.std.specs.List.{flat_map}
use Rattle.ct_checkpoint.specs.Checkpoint.{checkpoint_text}
use Rattle.ct_codec.specs.Bytes.{num, vec}
use Rattle.ct_codec.specs.Signed.{tree_head_text}
use Rattle.ct_step.specs.StateLines.{state_line_text}
use Rattle.ct_step.specs.declared.line.StateLine.{StateLine}
use Rattle.ct_step.specs.declared.step.Step.{Step}
use Rattle.ct_step.specs.StepWords.{Reference, StepReply, receipts_at, begins, names_edge, steps, rolls_out, stands, refuses}
use Rattle.ct_step.specs.declared.answer.Answer.{Answer}
use Rattle.ct_step.specs.declared.answer.Answer.TheVariants as answer
use Rattle.ct_step.specs.declared.answer.StepRefusal.{StepRefusal}

-- a receipt: its leaf index, its timestamp in milliseconds, and the bytes that are signed (RFC 6962, section 3.2)
abbrev pub receipt_text : ℕ × ℕ × List ℕ → List ℕ
receipt_text r = num 8 r.0 ++ (num 8 r.1 ++ vec 8 r.2)

-- the position of an object in its staged batch: its name, the byte offset and the length of its content, and the content's digest
abbrev pub reference_text : Reference → List ℕ
reference_text r = vec 8 r.name ++ (num 8 r.start ++ (num 8 r.size ++ r.digest))

-- the part of a line that is published: the text of the checkpoint for its head (C2SP tlog-checkpoint), and the positions of the objects of
-- its step in their staged batch
abbrev pub published_text : List ℕ → StateLine → List Reference → List ℕ
published_text origin line objects = vec 8 (checkpoint_text origin line.tree_size line.root) ++ vec 8 (flat_map reference_text objects)

-- a step: the bytes that are signed for the new head (TreeHeadSignature, RFC 6962, section 3.5), the part of the new line that is
-- published, that line, the staged batch, and for each submission the receipt at its index
abbrev pub stepped_text : List ℕ → Step → List ℕ → List Reference → List ℕ
stepped_text origin s places objects =
    s.signed.items
    ++ (published_text origin s.line objects
    ++ (vec 8 (state_line_text s.line) ++ (vec 8 s.bundle.items ++ flat_map receipt_text (receipts_at s places))))

-- a step that was decided: the bytes that are signed for its head, and the part of its line that is published
abbrev pub resumed_text : List ℕ → StateLine → List Reference → List ℕ
resumed_text origin line objects = tree_head_text line.timestamp line.tree_size line.root ++ published_text origin line objects

-- the refusal or the bytes of a reply of a log with this origin
abbrev pub reply_parts : List ℕ → StepReply → Result (List ℕ) StepRefusal
reply_parts origin (begins line) = Ok (state_line_text line)
reply_parts origin (names_edge names) = Ok (flat_map (vec 8) names)
reply_parts origin (steps step places objects) = Ok (stepped_text origin step places objects)
reply_parts origin (rolls_out line objects) = Ok (resumed_text origin line objects)
reply_parts origin (stands receipt) = Ok receipt.2
reply_parts origin (refuses refusal) = Err refusal

-- the same of the code's answer
abbrev pub answer_parts : Answer → Result (List ℕ) StepRefusal
answer_parts (answer.Text text) = Ok text.items
answer_parts (answer.Refused refusal) = Err refusal

-- the answer has the bytes of a reply with this property, of a log with this origin
abbrev pub IsReplyText : List ℕ → Answer → (StepReply → Type 0) → Type 0
IsReplyText origin told P = (reply : StepReply) × P reply × (answer_parts told ≡ reply_parts origin reply)
