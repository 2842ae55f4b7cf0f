-- The entry of a precertificate, and the leaf that a timestamp embedded in a certificate promises (RFC 6962, 3.1 to 3.4).
use Rattle.std.specs.Prelude.{◌≡◌, ◌⊎◌, ℕ, List, [], ◌∷◌, length, Result, Ok, Err, nat_lt, bytes_eq, if◌then◌else◌}
use Rattle.sha2.specs.Sha256.{sha256}
use Rattle.ct_promise.specs.DerReading.{◌>>=◌}
use Rattle.ct_codec.specs.Leaf.{precertificate, leaf_text, LeafText}
use Rattle.ct_tree.specs.Tree.{hash_leaf, mth_of_leaves}
use Rattle.ct_verify.specs.Verdict.{AcceptsInclusion, RefusesInclusion}
use Rattle.ct_verify.specs.Evidence.{IsAudited}
use Rattle.ct_verify.specs.Hashed.{CollideAmong}
use Rattle.ct_verify.specs.ListLaws.{IsHashedInAudit}
use Rattle.ct_promise.specs.declared.fault.CutFault.{CutFault}
use Rattle.ct_promise.specs.Tbs.{Parts, IsParted, IsWithout, IsCutOut, IsTbsOf, IsKeyOf}
use Rattle.ct_promise.specs.Reading.{parts_cut_at, without, whole_tbs_at, key_at}
use Rattle.ct_promise.specs.declared.fault.Document.{Document}
use Rattle.ct_promise.specs.declared.fault.Document.TheVariants.{Certificate, Issuer}
use Rattle.ct_promise.specs.declared.fault.Unfit.{Unfit}
use Rattle.ct_promise.specs.declared.fault.Unfit.TheVariants.{Uncut, BadPoison, TooLong}
use Rattle.ct_promise.specs.declared.fault.PromiseFault.{PromiseFault}
use Rattle.ct_promise.specs.declared.fault.PromiseFault.TheVariants as fault
use Rattle.ct_promise.specs.declared.fault.Unkept.{Unkept}
use Rattle.ct_promise.specs.declared.fault.Unkept.TheVariants as kept

-- the contents of the object identifier of the poison, 1.3.6.1.4.1.11129.2.4.3 (RFC 6962, 3.1)
abbrev pub poison_identifier : List ℕ
poison_identifier = 43 ∷ 6 ∷ 1 ∷ 4 ∷ 1 ∷ 214 ∷ 121 ∷ 2 ∷ 4 ∷ 3 ∷ []

-- the poison: its identifier, critical, and NULL in an OCTET STRING (RFC 6962, 3.1)
abbrev pub poison_text : List ℕ
poison_text =
    48 ∷ 19 ∷ 6 ∷ 10 ∷ 43 ∷ 6 ∷ 1 ∷ 4 ∷ 1 ∷ 214 ∷ 121 ∷ 2 ∷ 4 ∷ 3 ∷ 1 ∷ 1 ∷ 255 ∷ 4 ∷ 2 ∷ 5 ∷ 0 ∷ []

-- the contents of the object identifier of the list of timestamps, 1.3.6.1.4.1.11129.2.4.2 (RFC 6962, 3.3)
abbrev pub list_identifier : List ℕ
list_identifier = 43 ∷ 6 ∷ 1 ∷ 4 ∷ 1 ∷ 214 ∷ 121 ∷ 2 ∷ 4 ∷ 2 ∷ []

-- the result of reading a document; a fault is returned with the document
abbrev pub in_document : {X : Type 0} → Document → Result X CutFault → Result X Unfit
in_document d (Ok x) = Ok x
in_document d (Err f) = Err (Uncut d f)

-- the entry of a precertificate's TBSCertificate: the TBSCertificate without the poison (RFC 6962, 3.2)
unfoldable pub promised_entry_at : List ℕ → Result (List ℕ) Unfit
promised_entry_at tbs = in_document Certificate (parts_cut_at poison_identifier tbs) >>= λ p.
    if bytes_eq p.cut poison_text then Ok (without p) else Err BadPoison

-- the leaf of an entry in range
abbrev pub promised_leaf_at : ℕ → List ℕ → List ℕ → List ℕ → Result (List ℕ) Unfit
promised_leaf_at t key entry x =
    if nat_lt (length entry) 16777216 then Ok (leaf_text t (precertificate (sha256 key) entry) x) else Err TooLong

-- the leaf that a timestamp t embedded in a certificate promises, with extensions x (RFC 6962, 3.2 to 3.4)
unfoldable pub promised_at : List ℕ → List ℕ → ℕ → List ℕ → Result (List ℕ) Unfit
promised_at certificate issuer t x = do
  tbs ← in_document Certificate (whole_tbs_at certificate)
  p ← in_document Certificate (parts_cut_at list_identifier tbs)
  issuer_tbs ← in_document Issuer (whole_tbs_at issuer)
  key ← in_document Issuer (key_at issuer_tbs)
  promised_leaf_at t key (without p) x

-- the fault of a function is the fault of reading, unless memory ran out
abbrev pub FailsPromise : {Y : Type 0} → PromiseFault → Result Y Unfit → Type 0
FailsPromise fault.Memory read = Unit {0}
FailsPromise (fault.Unfit u) read = read ≡ Err u

-- the result of a function, seen through view, is the result of reading, unless memory ran out
abbrev pub GivesPromise : {X Y : Type 0} → (X → Y) → Result X PromiseFault → Result Y Unfit → Type 0
GivesPromise view (Ok x) read = read ≡ Ok (view x)
GivesPromise view (Err e) read = FailsPromise e read

-- c is the entry of the precertificate whose TBSCertificate is b: the same without the poison, which has its only form (RFC 6962, 3.1 and
-- 3.2)
abbrev pub IsEntryOf : List ℕ → List ℕ → Type 0
IsEntryOf b c = (p : Parts) × IsParted poison_identifier p b × (p.cut ≡ poison_text) × IsWithout p c

-- The leaf is the one that a timestamp t embedded in a certificate promises, with extensions x. It consists of the certificate's
-- TBSCertificate without the list of timestamps, and SHA-256 of the issuer's key (RFC 6962, 3.2 to 3.4).
pub record IsPromised (certificate issuer : List ℕ) (t : ℕ) (x leaf : List ℕ) : Type 0 where
  pub tbs : List ℕ
  pub entry : List ℕ
  pub issuer_tbs : List ℕ
  pub key : List ℕ
  pub tbs_is : IsTbsOf tbs certificate
  pub entry_is : IsCutOut list_identifier tbs entry
  pub issuer_is : IsTbsOf issuer_tbs issuer
  pub key_is : IsKeyOf key issuer_tbs
  pub leaf_is : LeafText t (precertificate (sha256 key) entry) x leaf

-- under a hash function H, the audit path leads from the promised leaf to the root
abbrev pub IsPromiseKeptBy : (List ℕ → List ℕ) → List ℕ → List ℕ → ℕ → List ℕ → ℕ → ℕ → List (List ℕ) → List ℕ → Type 0
IsPromiseKeptBy H certificate issuer t x index size path root =
    (leaf : List ℕ) × IsPromised certificate issuer t x leaf × AcceptsInclusion H (hash_leaf H leaf) index size path root

-- the same for SHA-256
abbrev pub IsPromiseKept : List ℕ → List ℕ → ℕ → List ℕ → ℕ → ℕ → List (List ℕ) → List ℕ → Type 0
IsPromiseKept certificate issuer t x index size path root = IsPromiseKeptBy sha256 certificate issuer t x index size path root

-- why the path does not lead there, unless memory ran out
abbrev pub IsUnkept : List ℕ → List ℕ → ℕ → List ℕ → ℕ → ℕ → List (List ℕ) → List ℕ → Unkept → Type 0
IsUnkept certificate issuer t x index size path root (kept.NoLeaf u) = promised_at certificate issuer t x ≡ Err u
IsUnkept certificate issuer t x index size path root (kept.NotThere f) =
    (leaf : List ℕ) × IsPromised certificate issuer t x leaf × RefusesInclusion sha256 (hash_leaf sha256 leaf) index size path root f
IsUnkept certificate issuer t x index size path root kept.Memory = Unit {0}

-- the string is hashed when the audit path of the promised leaf is checked, or in the tree of the leaves D
abbrev pub IsHashedForPromise : (List ℕ → List ℕ) → List ℕ → List ℕ → ℕ → List ℕ → ℕ → List (List ℕ) → List (List ℕ) → List ℕ → Type 0
IsHashedForPromise H certificate issuer t x index path D s =
    (leaf : List ℕ) × IsPromised certificate issuer t x leaf × IsHashedInAudit H D leaf index path s

-- Under a hash function H: in each list of that many leaves whose MTH is the root, the promised leaf is at the index, and the path is its
-- PATH; or two of the hashed strings collide (RFC 6962, 2.1).
abbrev pub StandsInAllBy : (List ℕ → List ℕ) → List ℕ → List ℕ → ℕ → List ℕ → ℕ → ℕ → List (List ℕ) → List ℕ → Type 0
StandsInAllBy H certificate issuer t x index size path root =
    (D : List (List ℕ)) → length D ≡ size → mth_of_leaves H D ≡ root
    → ((leaf : List ℕ) × IsPromised certificate issuer t x leaf × IsAudited H D leaf index path)
    ⊎ CollideAmong H (IsHashedForPromise H certificate issuer t x index path D)

-- the same for SHA-256
abbrev pub StandsInAll : List ℕ → List ℕ → ℕ → List ℕ → ℕ → ℕ → List (List ℕ) → List ℕ → Type 0
StandsInAll certificate issuer t x index size path root = StandsInAllBy sha256 certificate issuer t x index size path root

-- For every hash function H with hashes of 32 bytes: if the audit path leads from the promised leaf to the root, that leaf is in each list
-- with this root, or two of the hashed strings collide.
abbrev pub KeptPromisesStand : Type 0
KeptPromisesStand = (H : List ℕ → List ℕ) → ((y : List ℕ) → length (H y) ≡ 32)
    → (certificate issuer : List ℕ) (t : ℕ) (x : List ℕ) (index size : ℕ) (path : List (List ℕ)) (root : List ℕ)
    → IsPromiseKeptBy H certificate issuer t x index size path root → StandsInAllBy H certificate issuer t x index size path root
