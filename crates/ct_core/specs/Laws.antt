-- Laws of published states.
use Rattle.std.specs.Prelude.{[], Result, All}
use Rattle.std.specs.Global.{Global}
use Rattle.ct_codec.specs.Decoded.{AnswersLeaf, GivesLeaf}
use Rattle.ct_codec.specs.Laws.{ExtraDataIsRead}
use Rattle.ct_codec.specs.Submitted.{entry_of}
use Rattle.ct_codec.specs.declared.fault.DecodeFault.{DecodeFault}
use Rattle.ct_codec.specs.declared.reading.Leaf.{Leaf}
use Rattle.ct_core.specs.Answers.{text_of}
use Rattle.ct_core.specs.Leaf.{Entry}
use Rattle.ct_core.specs.Settlement.{Log, Lawful}

-- the decoders read the bytes that replies show for an entry, unless memory was refused: the leaf input as the entry's leaf, and the extra
-- data by the decoder of its kind
pub record IsRead (e : Entry) : Type 0 where
  pub leaf : (r : Result (Leaf Global) DecodeFault) → AnswersLeaf (text_of e).leaf_input r → GivesLeaf e.timestamp (entry_of e.submission) [] r
  pub chain : ExtraDataIsRead e.submission (text_of e).extra_data

-- The decoders read the bytes that a reply shows, for each entry of a lawful log.
abbrev pub ShownEntriesAreRead : Type 0
ShownEntriesAreRead = (log : Log) → Lawful log → All IsRead log.entries
