-- The laws of calls that read the entries of a log: those of a batch, of a data tile, and of one leaf. A caller passes what one call wrote to the next one.
use Rattle.std.specs.Prelude.{◌≡◌, ◌≢◌, ◌⊎◌, ◌<◌, ◌≤◌, ◌-◌, ◌++◌, ◌==◌, ℕ, List, length, map, take, drop, Option, Some, None, if◌then◌else◌}
use Rattle.ct_codec.specs.Leaf.{SignedEntry, LeafText, signed_of, type_of}
use Rattle.ct_data_tiles.specs.DataTile.{IsDataTile, tile_leaves_text}
use Rattle.ct_data_tiles.specs.Entries.{IsDataTileName, HasEntry, IsFirstWrong, entries_from, first_entry}
use Rattle.ct_data_tiles.specs.TileLeaf.{Tiled, leaf_of}
use Rattle.ct_data_tiles.specs.TileEntries.{tile_entries_bytes}
use Rattle.ct_monitor.specs.WatcherState.{WatcherState}
use Rattle.ct_monitor.specs.Entries.{IsFirstFaulty, IsFirstLater, leaves_to_read, moment_awaited}
use Rattle.ct_monitor.specs.StateText.{IsMonitorState}
use Rattle.ct_monitor.specs.declared.entries.FaultyEntry.{FaultyEntry}
use Rattle.ct_monitor.specs.declared.entries.LaterEntry.{LaterEntry}
use Rattle.ct_names.specs.declared.name_bytes.EntryKind.{EntryKind}
use Rattle.ct_data_tiles.specs.declared.tile.Tile.{Tile}
use Rattle.libwagtenib.specs.Codes.{DecodesLeaf}
use Rattle.libwagtenib.specs.DataTiles.{ComparesTile, WritesTileEntries}
use Rattle.libwagtenib.specs.Monitor.{JudgesEntries, JudgesEntry, JudgesPieces, TellsFaulty, TellsLater}
use Rattle.libwagtenib.specs.Names.{WritesCertificateNames, WritesFoundOf, WritesNamesInBytes, WritesNamesOf, WritesWatchedNames, entry_kind}
use Rattle.libwagtenib.specs.Tiles.{pieces}
use Rattle.libwagtenib.specs.declared.leaf.LeafInfo.{LeafInfo}
use Rattle.libwagtenib.specs.declared.monitor.EntryReport.{EntryReport}
use Rattle.libwagtenib.specs.declared.monitor.MonitorVerdict.{MonitorVerdict}
use Rattle.sha2.specs.Sha256.{sha256}

-- the report has the first of these entries, which begin at an index, that is later than a head with its timestamp, and the first that is no leaf
abbrev pub IsReportOf : ℕ → List (List ℕ) → EntryReport → Type 0
IsReportOf first E r =
    ((later : Option LaterEntry) × IsFirstLater r.head_timestamp first E later × TellsLater later r.later_index r.later_timestamp)
    × ((faulty : Option FaultyEntry) × IsFirstFaulty first E faulty × TellsFaulty faulty r.faulty_index r.fault)

-- the report has no entry
abbrev pub IsEmptyReport : EntryReport → Type 0
IsEmptyReport r = TellsLater None r.later_index r.later_timestamp × TellsFaulty None r.faulty_index r.fault

-- A call of `wagtenib_monitor_entries` returned 0. Its report has the timestamp of the head that waited in the state before it, and is about the entries that were
-- read, unless the verdict is 136: then none was read. So `wagtenib_monitor_entry` with this timestamp judges an entry beside the head that waited for it.
abbrev pub ReportsNameTheWaitingHead : Type 0
ReportsNameTheWaitingHead =
    (start : ℕ) (leaves lengths state : List ℕ) (verdict told : MonitorVerdict) (report reported : EntryReport) (before after : List ℕ) (count_before count : ℕ)
    → JudgesPieces start leaves lengths state 0 verdict told report reported before after count_before count
    → (s : WatcherState) × IsMonitorState sha256 s state × (reported.head_timestamp ≡ moment_awaited s.waiting)
    × (((told.verdict ≡ 136) × IsEmptyReport reported) ⊎ ((told.verdict ≢ 136) × IsReportOf s.all.0 (leaves_to_read s (pieces lengths leaves)) reported))

-- The bytes are the data tile of this name, which has these leaves, and the entry at `next` is one of them. The code is 0 if each entry from that one on names its
-- own index, and 150 with the index of the first that does not.
abbrev pub IsComparedTile : List ℕ → ℕ → List ℕ → ℕ → ℕ → Tile → List Tiled → Type 0
IsComparedTile name next tile code index t L =
    IsDataTileName name t × HasEntry t next × IsDataTile L tile × (length L ≡ t.width)
    × (((code ≡ 0) × IsFirstWrong next (entries_from next t L) None) ⊎ ((code ≡ 150) × IsFirstWrong next (entries_from next t L) (Some index)))

-- the bytes of the entries of a tile with these leaves: those before the index `next`, and after them those from it on
abbrev pub parted_entries : ℕ → Tile → List Tiled → List ℕ
parted_entries next t L =
    tile_entries_bytes 0 (take (next - first_entry t) L)
    ++ tile_entries_bytes (length (tile_leaves_text (take (next - first_entry t) L))) (entries_from next t L)

-- A caller compared a data tile with its name, and the call returned 0 or 150. A call that wrote the entries of the same bytes returned 0. Then both are about one
-- list of leaves: it has as many as the name says, and after the entries before `next`, which are as many as `next` is after the tile's first entry, the bytes have
-- those from `next` on. If the caller passes the leaves of these to `wagtenib_monitor_entries`, it is they that are judged.
abbrev pub ComparedTilesAreJudged : Type 0
ComparedTilesAreJudged =
    (name tile : List ℕ) (next code index_before index : ℕ) → ComparesTile name next tile code index_before index → (code ≡ 0) ⊎ (code ≡ 150)
    → (before after : List ℕ) (count_before count faulty_before faulty : ℕ) → WritesTileEntries tile 0 before after count_before count faulty_before faulty
    → (t : Tile) × (L : List Tiled) × IsComparedTile name next tile code index t L × (take count after ≡ parted_entries next t L)
    × ((leaves lengths state : List ℕ) (verdict told : MonitorVerdict) (report reported : EntryReport) (memory written : List ℕ) (size_before size : ℕ)
    → pieces lengths leaves ≡ map leaf_of (entries_from next t L)
    → JudgesPieces next leaves lengths state 0 verdict told report reported memory written size_before size
    → JudgesEntries next (map leaf_of (entries_from next t L)) state 0 verdict told report reported memory written size_before size)

-- the byte offset in a leaf of its certificate or TBSCertificate, by the entry type (RFC 6962, section 3.4); include/wagtenib.h has the same
abbrev pub certificate_start : ℕ → ℕ
certificate_start type = if type == 0 then 15 else 47

-- the certificate or TBSCertificate in the bytes of a leaf that has these numbers
abbrev pub signed_part : LeafInfo → List ℕ → List ℕ
signed_part info leaf = take info.certificate_length (drop (certificate_start info.entry_type) leaf)

-- Calls over a part of a leaf, with the leaf's entry type, are about this certificate or TBSCertificate: they write its names, the watched names that are found among
-- them, and the watched names that are in its bytes; or return the reason why it cannot be read.
abbrev pub AreSearchesOf : EntryKind → List ℕ → ℕ → List ℕ → Type 0
AreSearchesOf kind certificate type part =
    (watched before after : List ℕ) (code count_before count field_before field : ℕ)
    → (WritesCertificateNames type part code before after count_before count field_before field
    → WritesNamesOf kind certificate code before after count_before count field_before field)
    × (WritesWatchedNames type part watched code before after count_before count field_before field
    → WritesFoundOf kind certificate watched code before after count_before count field_before field)
    × (WritesNamesInBytes part watched code before after count_before count → WritesNamesInBytes certificate watched code before after count_before count)

-- `wagtenib_monitor_entry` returned this over a leaf with a timestamp: 0 if it is no later than the head, and 142 if it is
abbrev pub IsJudgedBeside : ℕ → ℕ → ℕ → ℕ → Type 0
IsJudgedBeside moment timestamp code written =
    (written ≡ timestamp) × (((code ≡ 0) × (timestamp ≤ moment)) ⊎ ((code ≡ 142) × (moment < timestamp)))

-- `wagtenib_decode_leaf` returned 0 for some bytes, for example for those of an entry that is judged. Then they are a leaf. Its certificate or TBSCertificate is where
-- the header says, so the calls over that part of the bytes search the entry that was judged. And `wagtenib_monitor_entry` judges it by its timestamp.
abbrev pub JudgedLeavesAreSearched : Type 0
JudgedLeavesAreSearched =
    (leaf : List ℕ) (before info : LeafInfo) → DecodesLeaf 0 before info leaf
    → (e : SignedEntry) × (x : List ℕ) × (kind : EntryKind) × LeafText info.timestamp e x leaf × (info.entry_type ≡ type_of e)
    × (entry_kind info.entry_type ≡ Some kind) × (signed_part info leaf ≡ signed_of e) × AreSearchesOf kind (signed_of e) info.entry_type (signed_part info leaf)
    × ((moment code timestamp_before timestamp : ℕ) → JudgesEntry moment leaf code timestamp_before timestamp → IsJudgedBeside moment info.timestamp code timestamp)
