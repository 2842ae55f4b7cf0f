-- The codes and the bytes of calls over the names of a certificate (RFC 5280, section 4).
use Rattle.std.specs.Prelude.{◌≡◌, ◌⊎◌, ◌==◌, ℕ, List, Option, Some, None, Result, Err, if◌then◌else◌}
use Rattle.ct_names.specs.Names.{Named}
use Rattle.ct_promise.specs.declared.field.Unread.{Unread}
use Rattle.ct_names.specs.NameBytes.{names_read, IsNamesText}
use Rattle.ct_names.specs.FoundBytes.{AreWatched, IsWatchedList, IsFoundText}
use Rattle.ct_names.specs.FoundInBytes.{IsInBytesText}
use Rattle.ct_names.specs.declared.name_bytes.EntryKind.{EntryKind}
use Rattle.ct_names.specs.declared.name_bytes.EntryKind.TheVariants.{X509, Precert}
use Rattle.libwagtenib.specs.Certificates.{der_code, place_number}
use Rattle.libwagtenib.specs.Output.{WritesOutput}

-- the part of a certificate that an entry of this type contains (RFC 6962, section 3.1); no entry has a type other than 0 and 1
abbrev pub entry_kind : ℕ → Option EntryKind
entry_kind t = if t == 0 then Some X509 else (if t == 1 then Some Precert else None)

-- reading gives no names: this is the number of the first reason, and that of its field
abbrev pub TellsUnread : Result (List Named) Unread → ℕ → ℕ → Type 0
TellsUnread read code field = (u : Unread) × (read ≡ Err u) × (code ≡ der_code u.fault) × (field ≡ place_number u.place)

-- A call over the names of an entry's certificate or TBSCertificate. 0 or 9: their bytes are written, as WritesOutput says. 80 to 86: reading gives no names, and
-- only the number of the field is written, which is not written otherwise. 8: an allocation was refused.
abbrev pub WritesNamesOf : EntryKind → List ℕ → ℕ → List ℕ → List ℕ → ℕ → ℕ → ℕ → ℕ → Type 0
WritesNamesOf e certificate code before after count_before count field_before field =
    ((text : List ℕ) × IsNamesText e certificate text × WritesOutput text code before after count × (field ≡ field_before))
    ⊎ ((TellsUnread (names_read e certificate) code field × (after ≡ before) × (count ≡ count_before))
    ⊎ ((code ≡ 8) × (after ≡ before) × (count ≡ count_before) × (field ≡ field_before)))

-- A call over the watched names that are found there. 144: the bytes are no list of watched names, whatever the certificate is. 80 to 86: they are a list.
-- Otherwise as WritesNamesOf.
abbrev pub WritesFoundOf : EntryKind → List ℕ → List ℕ → ℕ → List ℕ → List ℕ → ℕ → ℕ → ℕ → ℕ → Type 0
WritesFoundOf e certificate watched code before after count_before count field_before field =
    ((text : List ℕ) × IsFoundText e certificate watched text × WritesOutput text code before after count × (field ≡ field_before))
    ⊎ (((code ≡ 144) × ((names : List (List ℕ)) → AreWatched names watched → ⊥) × (after ≡ before) × (count ≡ count_before) × (field ≡ field_before))
    ⊎ ((TellsUnread (names_read e certificate) code field × IsWatchedList watched × (after ≡ before) × (count ≡ count_before))
    ⊎ ((code ≡ 8) × (after ≡ before) × (count ≡ count_before) × (field ≡ field_before))))

-- A call over the names of an entry whose type is a number. 20: no entry has this type, and nothing is written.
abbrev pub WritesCertificateNames : ℕ → List ℕ → ℕ → List ℕ → List ℕ → ℕ → ℕ → ℕ → ℕ → Type 0
WritesCertificateNames t certificate code before after count_before count field_before field =
    ((code ≡ 20) × (entry_kind t ≡ None) × (after ≡ before) × (count ≡ count_before) × (field ≡ field_before))
    ⊎ ((e : EntryKind) × (entry_kind t ≡ Some e) × WritesNamesOf e certificate code before after count_before count field_before field)

-- a call over the watched names that are found in an entry whose type is a number, likewise
abbrev pub WritesWatchedNames : ℕ → List ℕ → List ℕ → ℕ → List ℕ → List ℕ → ℕ → ℕ → ℕ → ℕ → Type 0
WritesWatchedNames t certificate watched code before after count_before count field_before field =
    ((code ≡ 20) × (entry_kind t ≡ None) × (after ≡ before) × (count ≡ count_before) × (field ≡ field_before))
    ⊎ ((e : EntryKind) × (entry_kind t ≡ Some e) × WritesFoundOf e certificate watched code before after count_before count field_before field)

-- A call over the watched names that are in some bytes. 0 or 9: the bytes of those that are there are written, as WritesOutput says. 144: the bytes are no list of
-- watched names. 8: an allocation was refused. Nothing is written with 144 and 8.
abbrev pub WritesNamesInBytes : List ℕ → List ℕ → ℕ → List ℕ → List ℕ → ℕ → ℕ → Type 0
WritesNamesInBytes bytes watched code before after count_before count =
    ((text : List ℕ) × IsInBytesText bytes watched (Some text) × WritesOutput text code before after count)
    ⊎ (((code ≡ 144) × IsInBytesText bytes watched None × (after ≡ before) × (count ≡ count_before))
    ⊎ ((code ≡ 8) × (after ≡ before) × (count ≡ count_before)))
