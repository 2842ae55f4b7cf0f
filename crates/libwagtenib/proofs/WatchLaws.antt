-- Calls over a batch of entries, over a data tile and over a leaf that returned 0.
use Rattle.std.proofs.Common.{◌≡◌, ◌≢◌, ◌∙◌, ◌⊎◌, ◌+◌, ◌-◌, ◌<◌, ◌≤◌, ◌++◌, inl, inr, refl, arith, sym, ap, subst, ℕ, List, [], ◌∷◌, length, map, take, drop, Option, Some, None, append_assoc, length-append}
use Rattle.std.proofs.Math.Seq.{take-append_seam, drop-append_seam}
use Rattle.std.proofs.lemmas.List.{take-append-drop}
use Rattle.std.proofs.lemmas.Option.{same_Some, none-some}
use Rattle.sha2.specs.Sha256.{sha256}
use Rattle.ct_codec.specs.Bytes.{num, vec}
use Rattle.ct_codec.specs.Laws.{LeavesStandApart, LeafTextsHaveNoFault}
use Rattle.ct_codec.specs.Leaf.{SignedEntry, certificate, precertificate, IsEntry, LeafText, leaf_text, signed_of, type_of}
use Rattle.ct_codec.specs.declared.fault.DecodeFault.{DecodeFault}
use Rattle.ct_codec.specs.declared.fault.DecodeFault.TheVariants.{Truncated, BadVersion, BadLeafType, BadEntryType, EmptyVector, Trailing, Memory}
use Rattle.ct_codec.proofs.Refusals.{length-num}
use Rattle.ct_data_tiles.specs.DataTile.{IsDataTile, tile_leaves_text}
use Rattle.ct_data_tiles.specs.Entries.{IsFirstWrong, entries_from, first_entry}
use Rattle.ct_data_tiles.specs.Laws.{DataTilesStandApart}
use Rattle.ct_data_tiles.specs.TileAnswers.{IsTileAnswer}
use Rattle.ct_data_tiles.specs.TileLeaf.{Tiled, leaf_of, tile_leaf_text}
use Rattle.ct_data_tiles.specs.declared.answer.Damage.TheVariants as damage
use Rattle.ct_data_tiles.specs.declared.answer.DataTileAnswer.{DataTileAnswer}
use Rattle.ct_data_tiles.specs.declared.answer.DataTileAnswer.TheVariants as answer
use Rattle.ct_data_tiles.specs.declared.fault.TileFault.{TileFault}
use Rattle.ct_data_tiles.specs.declared.fault.TileFault.TheVariants.{Field, PartialFingerprint}
use Rattle.ct_data_tiles.specs.TileEntries.{tile_entries_bytes, tile_entry_bytes}
use Rattle.ct_monitor.specs.WatcherState.{WatcherState}
use Rattle.ct_monitor.specs.declared.verdict.Verdict.{Verdict}
use Rattle.ct_monitor.specs.declared.verdict.Verdict.TheVariants.{Accepted, Pending, Again, Older, Shrunk, Fork, TimeNotLater, RootMismatch, Gap, Consistent, Inconsistent}
use Rattle.ct_monitor.specs.Calls.{ReportsEntries}
use Rattle.ct_monitor.specs.Entries.{IsFirstLater, leaves_to_read, moment_awaited}
use Rattle.ct_monitor.specs.StateText.{IsMonitorState}
use Rattle.ct_monitor.specs.declared.answer.Answer.{Answer}
use Rattle.ct_monitor.specs.declared.answer.EntriesAnswer.{EntriesAnswer}
use Rattle.ct_monitor.specs.declared.entries.FaultyEntry.{FaultyEntry}
use Rattle.ct_monitor.specs.declared.entries.LaterEntry.{LaterEntry}
use Rattle.ct_names.specs.declared.name_bytes.EntryKind.{EntryKind}
use Rattle.ct_names.specs.declared.name_bytes.EntryKind.TheVariants.{X509, Precert}
use Rattle.ct_data_tiles.specs.declared.tile.Tile.{Tile}
use Rattle.libwagtenib.specs.Codes.{DecodesLeaf, Describes, leaf_code}
use Rattle.libwagtenib.specs.DataTiles.{ComparesTile, IsAnswerTold, WritesTileEntries, tile_code}
use Rattle.libwagtenib.specs.Monitor.{JudgesEntries, JudgesEntry, JudgesPieces, TellsFaulty, TellsLater, TellsReport, TellsVerdict, verdict_code}
use Rattle.libwagtenib.specs.Names.{WritesCertificateNames, WritesFoundOf, WritesNamesInBytes, WritesNamesOf, WritesWatchedNames, entry_kind}
use Rattle.libwagtenib.specs.Output.{WritesOutput}
use Rattle.libwagtenib.specs.Tiles.{pieces}
use Rattle.libwagtenib.specs.WatchLaws.{AreSearchesOf, ComparedTilesAreJudged, IsComparedTile, IsEmptyReport, IsJudgedBeside, IsReportOf, JudgedLeavesAreSearched, ReportsNameTheWaitingHead, signed_part, certificate_start, parted_entries}
use Rattle.libwagtenib.specs.declared.leaf.LeafInfo.{LeafInfo}
use Rattle.libwagtenib.specs.declared.monitor.EntryReport.{EntryReport}
use Rattle.libwagtenib.specs.declared.monitor.MonitorVerdict.{MonitorVerdict}

-- the text that a call wrote if it returned 0
wrote : (text before after : List ℕ) (count : ℕ) → WritesOutput text 0 before after count → take count after ≡ text
wrote text before after count (n, inl w) =
    ap (λ (k : ℕ). take k after) n ∙ ap (take (length text)) w.1 ∙ take-append_seam text (drop (length text) before)
wrote text before after count (n, inr r) = absurd (omega (arith, r.0))

-- ---- a report on entries

at_once : (code : ℕ) → code ≡ 0 → (a : Answer) (verdict told : MonitorVerdict) → ((code ≡ 0) × TellsVerdict told a) ⊎ ((code ≡ 9) × (told ≡ verdict))
    → TellsVerdict told a
at_once code z a verdict told (inl t) = t.1
at_once code z a verdict told (inr t) = absurd (omega (arith, z, t.0))

reported_at_once : (code : ℕ) → code ≡ 0 → (a : EntriesAnswer) (report reported : EntryReport)
    → ((code ≡ 0) × TellsReport reported a) ⊎ ((code ≡ 9) × (reported ≡ report)) → TellsReport reported a
reported_at_once code z a report reported (inl r) = r.1
reported_at_once code z a report reported (inr r) = absurd (omega (arith, z, r.0))

gap_code : (v : Verdict) → verdict_code v ≡ 136 → v ≡ Gap
gap_code Accepted e = absurd (omega (arith, e))
gap_code Pending e = absurd (omega (arith, e))
gap_code Again e = absurd (omega (arith, e))
gap_code (Older known) e = absurd (omega (arith, e))
gap_code (Shrunk known) e = absurd (omega (arith, e))
gap_code (Fork known) e = absurd (omega (arith, e))
gap_code (TimeNotLater known) e = absurd (omega (arith, e))
gap_code (RootMismatch root) e = absurd (omega (arith, e))
gap_code Gap e = refl
gap_code Consistent e = absurd (omega (arith, e))
gap_code (Inconsistent fault) e = absurd (omega (arith, e))

about : (s : WatcherState) (E : List (List ℕ)) (a : EntriesAnswer) (told : MonitorVerdict) (r : EntryReport) → TellsVerdict told a.answer → TellsReport r a
    → r.head_timestamp ≡ moment_awaited s.waiting → ReportsEntries s E a.answer.verdict a.later a.faulty
    → ((told.verdict ≡ 136) × IsEmptyReport r) ⊎ ((told.verdict ≢ 136) × IsReportOf s.all.0 (leaves_to_read s E) r)
about s E a told r tells says at (inl g) =
    inl (
      tells.verdict ∙ ap verdict_code g.0,
      (subst (λ (o : Option LaterEntry). TellsLater o r.later_index r.later_timestamp) g.1 says.0, subst (λ (o : Option FaultyEntry). TellsFaulty o r.faulty_index r.fault) g.2 says.1),
    )
about s E a told r tells says at (inr g) =
    let later = subst (λ (m : ℕ). IsFirstLater m s.all.0 (leaves_to_read s E) a.later) (sym at) g.1.0 in
    inr (λ e. g.0 (gap_code a.answer.verdict (sym tells.verdict ∙ e)), ((a.later, later, says.0), (a.faulty, g.1.1, says.1)))

abbrev IsReported : List (List ℕ) → List ℕ → MonitorVerdict → EntryReport → Type 0
IsReported E state told reported =
    (s : WatcherState) × IsMonitorState sha256 s state × (reported.head_timestamp ≡ moment_awaited s.waiting)
    × (((told.verdict ≡ 136) × IsEmptyReport reported) ⊎ ((told.verdict ≢ 136) × IsReportOf s.all.0 (leaves_to_read s E) reported))

of_entries : (start : ℕ) (E : List (List ℕ)) (state : List ℕ) (verdict told : MonitorVerdict) (report reported : EntryReport) (before after : List ℕ) (count_before count : ℕ)
    → JudgesEntries start E state 0 verdict told report reported before after count_before count → IsReported E state told reported
of_entries start E state verdict told report reported before after count_before count (inl r) = absurd (omega (arith, r.0))
of_entries start E state verdict told report reported before after count_before count (inr (inl (a, is, gives, says))) =
    let r = reported_at_once 0 refl a report reported says in
    let at = r.2 ∙ is.6 in
    (is.0, is.2, at, about is.0 E a told reported (at_once 0 refl a.answer verdict told gives.1) r at is.5)
of_entries start E state verdict told report reported before after count_before count (inr (inr r)) = absurd (omega (arith, r.0))

pub reports_name_the_waiting_head : ReportsNameTheWaitingHead
reports_name_the_waiting_head start leaves lengths state verdict told report reported before after count_before count (inl r) = absurd (omega (arith, r.0))
reports_name_the_waiting_head start leaves lengths state verdict told report reported before after count_before count (inr r) =
    of_entries start (pieces lengths leaves) state verdict told report reported before after count_before count r.1

-- ---- a data tile

leaf_bounds : (f : DecodeFault) → (0 < leaf_code f) × (leaf_code f < 150)
leaf_bounds Memory = (omega arith, omega arith)
leaf_bounds Truncated = (omega arith, omega arith)
leaf_bounds BadVersion = (omega arith, omega arith)
leaf_bounds BadLeafType = (omega arith, omega arith)
leaf_bounds BadEntryType = (omega arith, omega arith)
leaf_bounds EmptyVector = (omega arith, omega arith)
leaf_bounds Trailing = (omega arith, omega arith)

tile_bounds : (f : TileFault) → (0 < tile_code f) × (tile_code f < 150)
tile_bounds (Field f) = leaf_bounds f
tile_bounds PartialFingerprint = (omega arith, omega arith)

apart : {A : Type 0} (code n : ℕ) → (code ≡ 0) ⊎ (code ≡ 150) → code ≡ n → 0 < n → n < 150 → A
apart code n (inl e) r low high = absurd (omega (arith, e, r, low))
apart code n (inr e) r low high = absurd (omega (arith, e, r, high))

compared : (name tile : List ℕ) (next code index_before index : ℕ) (a : DataTileAnswer) → (code ≡ 0) ⊎ (code ≡ 150) → IsTileAnswer next name tile a
    → IsAnswerTold a code index_before index → (t : Tile) × (L : List Tiled) × IsComparedTile name next tile code index t L
compared name tile next code index_before index answer.Gap c is told = apart code 147 c told.0 (omega arith) (omega arith)
compared name tile next code index_before index answer.Known c is told = apart code 148 c told.0 (omega arith) (omega arith)
compared name tile next code index_before index (answer.Damaged damage.NoDataTile) c is told = apart code 146 c told.0 (omega arith) (omega arith)
compared name tile next code index_before index (answer.Damaged (damage.AtLeaf place f)) c is told =
    apart code (tile_code f) c told.0 (tile_bounds f).0 (tile_bounds f).1
compared name tile next code index_before index (answer.Damaged (damage.OtherCount count)) c is told = apart code 149 c told.0 (omega arith) (omega arith)
compared name tile next code index_before index (answer.Entries None) c is told = (is.0, is.1, (is.2, is.3, is.4, is.5, inl (told.0, is.6)))
compared name tile next code index_before index (answer.Entries (Some wrong)) c is told =
    let first = subst (λ (n : ℕ). IsFirstWrong next (entries_from next is.0 is.1) (Some n)) (sym told.1) is.6 in
    (is.0, is.1, (is.2, is.3, is.4, is.5, inr (told.0, first)))

of_comparison : (name tile : List ℕ) (next code index_before index : ℕ) → ComparesTile name next tile code index_before index → (code ≡ 0) ⊎ (code ≡ 150)
    → (t : Tile) × (L : List Tiled) × IsComparedTile name next tile code index t L
of_comparison name tile next code index_before index (inl r) c = compared name tile next code index_before index r.0 c r.1 r.2
of_comparison name tile next code index_before index (inr r) c = apart code 8 c r.0 (omega arith) (omega arith)

entries_of : (tile before after : List ℕ) (count_before count faulty_before faulty : ℕ) → WritesTileEntries tile 0 before after count_before count faulty_before faulty
    → (M : List Tiled) × IsDataTile M tile × (take count after ≡ tile_entries_bytes 0 M)
entries_of tile before after count_before count faulty_before faulty (inl (text, is, w, same)) = (is.0, is.1, wrote text before after count w ∙ is.2)
entries_of tile before after count_before count faulty_before faulty (inr (inl r)) = absurd (omega (arith, r.2, (tile_bounds r.0).0))
entries_of tile before after count_before count faulty_before faulty (inr (inr r)) = absurd (omega (arith, r.0))

-- the entries of leaves in two parts
split_from : (start : ℕ) (A B : List Tiled)
    → tile_entries_bytes start (A ++ B) ≡ tile_entries_bytes start A ++ tile_entries_bytes (start + length (tile_leaves_text A)) B
unfolding tile_entries_bytes
split_from start [] B =
    let z : start ≡ start + 0 = omega arith in
    ap (λ (n : ℕ). tile_entries_bytes n B) z
split_from start (a ∷ A) B =
    let next = start + length (tile_leaf_text a) in
    let same : next + length (tile_leaves_text A) ≡ start + length (tile_leaves_text (a ∷ A)) =
    omega (arith, length-append (tile_leaf_text a) (tile_leaves_text A)) in
    ap (λ (s : List ℕ). tile_entry_bytes start a ++ s) (split_from next A B ∙ ap (λ (n : ℕ). tile_entries_bytes next A ++ tile_entries_bytes n B) same)
    ∙ sym (append_assoc (tile_entry_bytes start a) (tile_entries_bytes next A) (tile_entries_bytes (start + length (tile_leaves_text (a ∷ A))) B))

parted : (next : ℕ) (t : Tile) (L : List Tiled) → tile_entries_bytes 0 L ≡ parted_entries next t L
parted next t L =
    let k = next - first_entry t in
    let A = take k L in
    let z : 0 + length (tile_leaves_text A) ≡ length (tile_leaves_text A) = omega arith in
    sym (ap (tile_entries_bytes 0) (take-append-drop k L)) ∙ split_from 0 A (drop k L)
    ∙ ap (λ (n : ℕ). tile_entries_bytes 0 A ++ tile_entries_bytes n (drop k L)) z

judged : (next : ℕ) (E : List (List ℕ)) (leaves lengths state : List ℕ) (verdict told : MonitorVerdict) (report reported : EntryReport) (memory written : List ℕ)
    (size_before size : ℕ) → pieces lengths leaves ≡ E → JudgesPieces next leaves lengths state 0 verdict told report reported memory written size_before size
    → JudgesEntries next E state 0 verdict told report reported memory written size_before size
judged next E leaves lengths state verdict told report reported memory written size_before size e (inl r) = absurd (omega (arith, r.0))
judged next E leaves lengths state verdict told report reported memory written size_before size e (inr r) =
    subst (λ (z : List (List ℕ)). JudgesEntries next z state 0 verdict told report reported memory written size_before size) e r.1

pub compared_tiles_are_judged : DataTilesStandApart → ComparedTilesAreJudged
compared_tiles_are_judged stand name tile next code index_before index compares c before after count_before count faulty_before faulty writes =
    let one = of_comparison name tile next code index_before index compares c in
    let two = entries_of tile before after count_before count faulty_before faulty writes in
    let same : two.0 ≡ one.1 = stand two.0 one.1 tile two.1 one.2.2 in (
      one.0,
      one.1,
      one.2,
      two.2 ∙ ap (tile_entries_bytes 0) same ∙ parted next one.0 one.1,
      λ leaves lengths state verdict told report reported memory written size_before size e j.
          judged next (map leaf_of (entries_from next one.0 one.1)) leaves lengths state verdict told report reported memory written size_before size e j,
    )

-- ---- a leaf

-- bytes in the middle of others
cut : (front c rest b : List ℕ) (n : ℕ) → b ≡ front ++ (c ++ rest) → length front ≡ n → take (length c) (drop n b) ≡ c
cut front c rest b n e l =
    ap (λ (z : List ℕ). take (length c) (drop n z)) e ∙ ap (λ (k : ℕ). take (length c) (drop k (front ++ (c ++ rest)))) (sym l)
    ∙ ap (take (length c)) (drop-append_seam front (c ++ rest)) ∙ take-append_seam c rest

-- the bytes around a certificate
around : (T E N c X : List ℕ) → T ++ ((E ++ (N ++ c)) ++ X) ≡ (T ++ (E ++ N)) ++ (c ++ X)
around T E N c X =
    ap (λ (s : List ℕ). T ++ s) (append_assoc E (N ++ c) X ∙ ap (λ (s : List ℕ). E ++ s) (append_assoc N c X))
    ∙ sym (append_assoc T (E ++ N) (c ++ X) ∙ ap (λ (s : List ℕ). T ++ s) (append_assoc E N (c ++ X)))

placed : (t : ℕ) (e : SignedEntry) (x : List ℕ) → IsEntry e → take (length (signed_of e)) (drop (certificate_start (type_of e)) (leaf_text t e x)) ≡ signed_of e
placed t (certificate c) x h =
    let T = num 8 t in
    let E = num 2 0 in
    let N = num 3 (length c) in
    cut (0 ∷ 0 ∷ (T ++ (E ++ N))) c (vec 2 x) (leaf_text t (certificate c) x) 15 (ap (λ (s : List ℕ). 0 ∷ 0 ∷ s) (around T E N c (vec 2 x)))
    (omega (arith, length-append T (E ++ N), length-append E N, length-num 8 t, length-num 2 0, length-num 3 (length c)))
placed t (precertificate k c) x h =
    let T = num 8 t in
    let E : List ℕ = num 2 1 ++ k in
    let N = num 3 (length c) in
    let text : leaf_text t (precertificate k c) x ≡ (0 ∷ 0 ∷ (T ++ (E ++ N))) ++ (c ++ vec 2 x) =
    ap (λ (s : List ℕ). 0 ∷ 0 ∷ (T ++ (s ++ vec 2 x))) (sym (append_assoc (num 2 1) k (N ++ c))) ∙ ap (λ (s : List ℕ). 0 ∷ 0 ∷ s) (around T E N c (vec 2 x)) in
    cut (0 ∷ 0 ∷ (T ++ (E ++ N))) c (vec 2 x) (leaf_text t (precertificate k c) x) 47 text
    (omega (arith, length-append T (E ++ N), length-append E N, length-append (num 2 1) k, length-num 8 t, length-num 2 1, length-num 3 (length c), h.0))

kind_of : (e : SignedEntry) → (kind : EntryKind) × (entry_kind (type_of e) ≡ Some kind)
kind_of (certificate c) = (X509, refl)
kind_of (precertificate k c) = (Precert, refl)

module _ (kind : EntryKind) (type : ℕ) (is : entry_kind type ≡ Some kind) (part own : List ℕ) (same : part ≡ own) (before after : List ℕ) (code count_before count : ℕ) where
  names_in : (field_before field : ℕ) → WritesCertificateNames type part code before after count_before count field_before field
      → WritesNamesOf kind own code before after count_before count field_before field
  names_in field_before field (inl r) = absurd (none-some kind (sym r.1 ∙ is))
  names_in field_before field (inr r) =
      let k : r.0 ≡ kind = same_Some r.0 kind (sym r.1 ∙ is) in
      subst (λ (b : List ℕ). WritesNamesOf kind b code before after count_before count field_before field) same
      (subst (λ (e : EntryKind). WritesNamesOf e part code before after count_before count field_before field) k r.2)

  found_in : (watched : List ℕ) (field_before field : ℕ) → WritesWatchedNames type part watched code before after count_before count field_before field
      → WritesFoundOf kind own watched code before after count_before count field_before field
  found_in watched field_before field (inl r) = absurd (none-some kind (sym r.1 ∙ is))
  found_in watched field_before field (inr r) =
      let k : r.0 ≡ kind = same_Some r.0 kind (sym r.1 ∙ is) in
      subst (λ (b : List ℕ). WritesFoundOf kind b watched code before after count_before count field_before field) same
      (subst (λ (e : EntryKind). WritesFoundOf e part watched code before after count_before count field_before field) k r.2)

  in_bytes : (watched : List ℕ) → WritesNamesInBytes part watched code before after count_before count
      → WritesNamesInBytes own watched code before after count_before count
  in_bytes watched w = subst (λ (b : List ℕ). WritesNamesInBytes b watched code before after count_before count) same w

searches : (kind : EntryKind) (type : ℕ) → entry_kind type ≡ Some kind → (part own : List ℕ) → part ≡ own → AreSearchesOf kind own type part
searches kind type is part own same watched before after code count_before count field_before field = (
  names_in kind type is part own same before after code count_before count field_before field,
  found_in kind type is part own same before after code count_before count watched field_before field,
  in_bytes kind type is part own same before after code count_before count watched,
)

module _ (stand : LeavesStandApart) (whole : LeafTextsHaveNoFault) (leaf : List ℕ) (t : ℕ) (e : SignedEntry) (x : List ℕ) (text : LeafText t e x leaf) where
  beside : (moment code timestamp_before timestamp : ℕ) → JudgesEntry moment leaf code timestamp_before timestamp → IsJudgedBeside moment t code timestamp
  beside moment code timestamp_before timestamp (inl (z, has, no_later)) =
      let same : timestamp ≡ t = (stand timestamp t has.0 e has.1 x leaf leaf [] [] has.2 text refl).0 in
      (same, inl (z, subst (λ (n : ℕ). n ≤ moment) same no_later))
  beside moment code timestamp_before timestamp (inr (inl (z, later))) =
      let has = later.0 in
      let same : timestamp ≡ t = (stand timestamp t has.0 e has.1 x leaf leaf [] [] has.2 text refl).0 in
      (same, inr (z, subst (λ (n : ℕ). moment < n) same later.1))
  beside moment code timestamp_before timestamp (inr (inr (f, z, faulty, w))) = absurd (faulty.1 (whole t e x leaf f text faulty.0))

of_leaf : LeavesStandApart → LeafTextsHaveNoFault → (leaf : List ℕ) (info : LeafInfo) → Describes info leaf
    → (e : SignedEntry) × (x : List ℕ) × (kind : EntryKind) × LeafText info.timestamp e x leaf × (info.entry_type ≡ type_of e)
    × (entry_kind info.entry_type ≡ Some kind) × (signed_part info leaf ≡ signed_of e) × AreSearchesOf kind (signed_of e) info.entry_type (signed_part info leaf)
    × ((moment code timestamp_before timestamp : ℕ) → JudgesEntry moment leaf code timestamp_before timestamp → IsJudgedBeside moment info.timestamp code timestamp)
of_leaf stand whole leaf info d =
    let e = d.0 in
    let text = d.2 in
    let kind = kind_of e in
    let is : entry_kind info.entry_type ≡ Some kind.0 = ap entry_kind d.3 ∙ kind.1 in
    let place : signed_part info leaf ≡ signed_of e =
    ap (λ (n : ℕ). take n (drop (certificate_start info.entry_type) leaf)) d.4
    ∙ ap (λ (k : ℕ). take (length (signed_of e)) (drop (certificate_start k) leaf)) d.3
    ∙ ap (λ (b : List ℕ). take (length (signed_of e)) (drop (certificate_start (type_of e)) b)) text.text
    ∙ placed info.timestamp e d.1 text.entry in (
      e,
      d.1,
      kind.0,
      text,
      d.3,
      is,
      place,
      searches kind.0 info.entry_type is (signed_part info leaf) (signed_of e) place,
      beside stand whole leaf info.timestamp e d.1 text,
    )

pub judged_leaves_are_searched : LeavesStandApart → LeafTextsHaveNoFault → JudgedLeavesAreSearched
judged_leaves_are_searched stand whole leaf before info (inl r) = of_leaf stand whole leaf info r.1
judged_leaves_are_searched stand whole leaf before info (inr r) = absurd (omega (arith, r.1, (leaf_bounds r.0).0))
