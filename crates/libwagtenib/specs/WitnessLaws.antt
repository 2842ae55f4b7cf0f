-- The laws of many calls of a witness, which any number of processes make over one register. H is any hash function on byte lists with hashes of 32 bytes. The
-- library's is SHA-256.
use Rattle.std.specs.Prelude.{◌≡◌, ◌⊎◌, ◌<◌, ◌≤◌, ◌^◌, ⊤, All, ℕ, List, [], ◌∷◌, Contains, length, map, take, Option, Some, None}
use Rattle.std.specs.List.{AllZip}
use Rattle.ct_verify.specs.Hashed.{CollideAmong}
use Rattle.ct_witness.specs.declared.tree.Tree.{Tree}
use Rattle.ct_witness.specs.Runs.{Granted, IsWitness, IsTreeOf, IsTreeOfFirst, IsHashedOver, no_tree}
use Rattle.libwagtenib.specs.Witness.{Cosigned, Cosigns, CosignsFirst, IsMessageOf}

-- A call is made before the first cosignature of the log with this origin, or over this state, the message of the last one.
pub data Over : Type 0 where
  none : List ℕ → Over
  state : List ℕ → Over

-- A call returned 0: of `wagtenib_witness_first`, or of `wagtenib_witness_cosign`.
abbrev pub Returned : (List ℕ → List ℕ) → Over → List ℕ → ℕ → List (List ℕ) → ℕ → List ℕ → List ℕ → ℕ → ℕ → Type 0
Returned H (none origin) text old proof time before after count_before count = CosignsFirst H 0 origin text old proof time before after count_before count
Returned H (state bytes) text old proof time before after count_before count = Cosigns H 0 bytes text old proof time before after count_before count

-- a call that returned 0: its arguments (a time has 64 bits), the caller's memory before and after it, and the length that it wrote
pub record CosignCall (H : List ℕ → List ℕ) : Type 0 where
  pub over : Over
  pub text : List ℕ
  pub old : ℕ
  pub proof : List (List ℕ)
  pub time : ℕ
  pub time_fits : time < 2 ^ 64
  pub before : List ℕ
  pub after : List ℕ
  pub count_before : ℕ
  pub count : ℕ
  pub returned : Returned H over text old proof time before after count_before count

-- the bytes that a call wrote, which are cosigned, and are the next state
abbrev pub message : {H : List ℕ → List ℕ} → CosignCall H → List ℕ
message c = take c.count c.after

-- A cosignature: a call, and the origin, the tree and the time of the message that it wrote.
pub record Cosignature (H : List ℕ → List ℕ) : Type 0 where
  pub call : CosignCall H
  pub says : Cosigned
  pub is : IsMessageOf says (message call)

-- Each call that returned 0 wrote the message of one cosignature.
abbrev pub CallsAreCosignatures : Type 0
CallsAreCosignatures =
    (H : List ℕ → List ℕ) (c : CosignCall H)
    → (says : Cosigned) × IsMessageOf says (message c) × ((other : Cosigned) → IsMessageOf other (message c) → other ≡ says)

-- the content of a register if a call was made over it: none yet, or this state
abbrev pub held_by : Over → Option (List ℕ)
held_by (none origin) = None
held_by (state bytes) = Some bytes

-- Cosignatures in the order in which one register answered that it holds their messages. For each of them it held the state that the call was made over, or this
-- message already. A message is cosigned after the answer. The law does not ask which processes made the calls, which other calls they made, which calls never
-- came back, or what was read from the register.
unfoldable pub AreKept : (H : List ℕ → List ℕ) → Option (List ℕ) → List (Cosignature H) → Type 0
AreKept H held [] = ⊤
AreKept H held (c ∷ rest) = ((held ≡ held_by c.call.over) ⊎ (held ≡ Some (message c.call))) × AreKept H (Some (message c.call)) rest

-- the tree of the last of such cosignatures
unfoldable pub newest_cosigned : {H : List ℕ → List ℕ} → Tree → List (Cosignature H) → Tree
newest_cosigned last [] = last
newest_cosigned last (c ∷ rest) = newest_cosigned c.says.tree rest

-- The witness granted the tree of this cosignature, from the old size and by the proof that the call was given; or from the tree's own size by an empty proof, as it
-- grants a tree again.
abbrev pub IsGrantOf : {H : List ℕ → List ℕ} → Granted → Cosignature H → Type 0
IsGrantOf s c = (s.tree ≡ c.says.tree) × (((s.old ≡ c.call.old) × (s.proof ≡ c.call.proof)) ⊎ ((s.old ≡ s.tree.size) × (s.proof ≡ [])))

-- Take any cosignatures over one register that held none at first. They are the steps of a witness, one by one, as ct_witness's laws speak of witnesses and of their
-- quorums.
abbrev pub KeptAreAWitness : Type 0
KeptAreAWitness =
    (H : List ℕ → List ℕ) (all : List (Cosignature H)) → AreKept H None all → (steps : List Granted) × IsWitness H steps × AllZip (λ (s : Granted) (c : Cosignature H). IsGrantOf s c) steps all

-- the request that was granted, with the proof that the call was given
abbrev pub granted_by : {H : List ℕ → List ℕ} → Cosignature H → Granted
granted_by c = record { old = c.call.old; tree = c.says.tree; proof = c.call.proof }

-- If the newest tree of such cosignatures is that of a list, each of their trees is that of a beginning of it; or two strings collide, which are hashed when the
-- proofs of the calls are checked, or in the trees of the list's beginnings.
abbrev pub KeptGoBack : Type 0
KeptGoBack =
    (H : List ℕ → List ℕ) → ((x : List ℕ) → length (H x) ≡ 32) → (all : List (Cosignature H)) → AreKept H None all
    → (D : List (List ℕ)) → IsTreeOf H D (newest_cosigned (no_tree H) all)
    → All (λ (c : Cosignature H). IsTreeOfFirst H D c.says.tree) all ⊎ CollideAmong H (IsHashedOver H (map granted_by all) D)

-- each of these cosignatures is of the same log as the one before, not earlier than it, and of a tree with as many leaves or more
unfoldable pub CosignedInOrder : {H : List ℕ → List ℕ} → Cosigned → List (Cosignature H) → Type 0
CosignedInOrder last [] = ⊤
CosignedInOrder last (c ∷ rest) =
    (c.says.origin ≡ last.origin) × (last.time ≤ c.says.time) × (last.tree.size ≤ c.says.tree.size) × CosignedInOrder c.says rest

-- After any cosignature over a register the later ones are in order.
abbrev pub KeptAreInOrder : Type 0
KeptAreInOrder =
    (H : List ℕ → List ℕ) (c : Cosignature H) (rest : List (Cosignature H)) → AreKept H (Some (message c.call)) rest → CosignedInOrder c.says rest

-- no cosignature is of the time 0
abbrev pub NoTimeIs0 : Type 0
NoTimeIs0 = (H : List ℕ → List ℕ) (c : Cosignature H) → 0 < c.says.time
