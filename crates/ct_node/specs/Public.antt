-- The contents under all public names of a log except those of its heads: tiles, data tiles, and the certificates of issuers. H is any hash
-- function on byte lists whose digests are bytes.
use Rattle.std.specs.Prelude.{◌≡◌, ◌⊎◌, ℕ, List, ◌++◌, codes}
use Rattle.hex.specs.Hex.{encode_lower, IsBytes}
use Rattle.ct_data_tiles.specs.TileLeaf.{Tiled}
use Rattle.ct_step.specs.declared.line.StateLine.{StateLine}
use Rattle.ct_verify.specs.Hashed.{CollideAmong}
use Rattle.ct_node.specs.declared.state.State.{State}
use Rattle.ct_node.specs.Worlds.{Has, Made, Object, World, Happening, beginning, IsFirstState, LeadTo}
use Rattle.ct_step.specs.Lines.{LineAttempt, IsHashedBySteps}
use Rattle.ct_step.specs.Steps.{IsLog}
use Rattle.ct_node.specs.Logs.{AreStepsMade, log_of_past}

-- the name of an issuer's certificate: issuer/, and the digits of its digest (C2SP static-ct-api, "Issuers")
abbrev pub issuer_name : (List ℕ → List ℕ) → List ℕ → List ℕ
issuer_name H certificate = codes "issuer/" ++ encode_lower (H certificate)

-- the object, a name and a content, is an issuer's: it has the name of its own digest
abbrev pub IsIssuer : (List ℕ → List ℕ) → List ℕ × List ℕ → Type 0
IsIssuer H i = i.0 ≡ issuer_name H i.1

-- the object was put, as one of a state or as an issuer's
abbrev pub IsPublic : (Object → List ℕ × List ℕ) → World → List (List ℕ × List ℕ) → List ℕ × List ℕ → Type 0
IsPublic plan w issuers x = ((o : Object) × Has o w.objects × (x ≡ plan o)) ⊎ Has x issuers

-- the string is the content of one of these
abbrev pub IsContentOf : List (List ℕ × List ℕ) → List ℕ → Type 0
IsContentOf issuers s = (i : List ℕ × List ℕ) × Has i issuers × (s ≡ i.1)

-- Whatever happens to the nodes' commands, and whoever puts which issuers, each under the name of its own digest: any two objects that were
-- ever put under one name have one content. The alternative is a collision of two strings, each of which is an issuer's certificate, is in
-- S (the strings that nodes hashed when they made steps and resumed them), or is hashed for the log's lines.
abbrev pub PublicNamesHaveOneContent : Type 0
PublicNamesHaveOneContent =
    (H : List ℕ → List ℕ) → ((x : List ℕ) → IsBytes (H x)) → (S : List (List ℕ)) (line : State → StateLine) (step : Made → LineAttempt)
    (plan : Object → List ℕ × List ℕ) (known : List Tiled)
    (count : State → ℕ) (b : State) (hs : List Happening) (w : World) → IsFirstState count b → LeadTo count (beginning b) hs w → IsLog H known (line b)
    → AreStepsMade H S line step count plan w.made → (issuers : List (List ℕ × List ℕ)) → ((i : List ℕ × List ℕ) → Has i issuers → IsIssuer H i)
    → (x y : List ℕ × List ℕ) → IsPublic plan w issuers x → IsPublic plan w issuers y → x.0 ≡ y.0
    → (x.1 ≡ y.1) ⊎ CollideAmong H (λ s. IsContentOf issuers s ⊎ IsHashedBySteps H S (log_of_past step known w.past) s)
