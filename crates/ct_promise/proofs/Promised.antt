-- The entry and the leaf in terms of the grammar.
use Rattle.std.proofs.Common.{◌≡◌, ◌<◌, ◌^◌, ◌++◌, ℕ, Bool, true, false, cond, ltb, List, length, Result, Ok, Err, refl, sym, ap, subst, inl, inr, arith}
use Rattle.std.specs.Prelude.{bytes_eq, IfOk}
use Rattle.std.specs.Global.{Vec}
use Rattle.std.proofs.lemmas.Bool.{ltb-true, lt-ltb}
use Rattle.std.proofs.lemmas.Slice.Eq.{bytes_eq-Decides}
use Rattle.sha2.specs.Sha256.{sha256}
use Rattle.sha2.proofs.Facts256.{length-sha256}
use Rattle.ct_promise.specs.DerLaws.{IsBytes}
use Rattle.ct_promise.specs.DerReading.{◌>>=◌}
use Rattle.ct_promise.proofs.Readings.{content_bytes, bytes_before}
use Rattle.ct_codec.specs.Leaf.{precertificate, leaf_text, LeafText}
use Rattle.ct_tree.specs.Tree.{hash_leaf, mth_of_leaves}
use Rattle.ct_verify.specs.Verdict.{AcceptsInclusion}
use Rattle.ct_verify.proofs.Agreeing.{collide_more}
use Rattle.ct_verify.proofs.ListProofs.{accepted_path_is_path}
use Rattle.ct_verify.specs.ListLaws.{IsHashedInAudit}
use Rattle.ct_promise.specs.declared.fault.CutFault.{CutFault}
use Rattle.ct_promise.specs.Tbs.{Parts, IsWithout, IsTbsOf}
use Rattle.ct_promise.specs.Reading.{parts_cut_at, without, whole_tbs_at, key_at}
use Rattle.ct_promise.proofs.Found.{read_cuts_are_there, tbs_found, key_found}
use Rattle.ct_promise.proofs.Here.{cuts_are_read, tbs_here, key_here}
use Rattle.ct_promise.proofs.Written.{written_cuts_are_there, cuts_are_written}
use Rattle.ct_promise.specs.declared.fault.Document.{Document}
use Rattle.ct_promise.specs.declared.fault.Document.TheVariants.{Certificate, Issuer}
use Rattle.ct_promise.specs.declared.fault.Unfit.{Unfit}
use Rattle.ct_promise.specs.declared.fault.Unfit.TheVariants.{BadPoison, TooLong}
use Rattle.ct_promise.specs.declared.fault.PromiseFault.{PromiseFault}
use Rattle.ct_promise.specs.Promise.{poison_identifier, poison_text, list_identifier, in_document, promised_entry_at, promised_leaf_at, IsHashedForPromise}
use Rattle.ct_promise.specs.Promise.{promised_at, GivesPromise, IsEntryOf, IsPromised, IsPromiseKept, StandsInAll, KeptPromisesStand}

bound : {A B F : Type 0} (r : Result A F) (f : A → Result B F) (y : B) → (r >>= f) ≡ Ok y → (x : A) × (r ≡ Ok x) × (f x ≡ Ok y)
bound (Ok x) f y e = (x, refl, e)
bound (Err d) f y e = absurd cc

document_ok : {X : Type 0} (d : Document) (r : Result X CutFault) (x : X) → in_document d r ≡ Ok x → r ≡ Ok x
document_ok d (Ok y) x e = cc
document_ok d (Err f) x e = absurd cc

tested : (b : Bool) (u : Unfit) (x y : List ℕ) → cond b (Ok x) (Err u) ≡ Ok y → (b ≡ true) × (x ≡ y)
tested true u x y e = (refl, cc)
tested false u x y e = absurd cc

-- ---- the entry of a precertificate

abbrev unpoisoned : Parts → Result (List ℕ) Unfit
unpoisoned p = cond (bytes_eq p.cut poison_text) (Ok (without p)) (Err BadPoison)

pub entry_found : (tbs c : List ℕ) → IsBytes tbs → promised_entry_at tbs ≡ Ok c → IsEntryOf tbs c
unfolding promised_entry_at
entry_found tbs c fits e =
    let a = bound (in_document Certificate (parts_cut_at poison_identifier tbs)) unpoisoned c e in
    let is = read_cuts_are_there poison_identifier a.0 tbs fits (document_ok Certificate (parts_cut_at poison_identifier tbs) a.0 a.1) in
    let t = tested (bytes_eq a.0.cut poison_text) BadPoison (without a.0) c a.2 in
    (a.0, is, (bytes_eq-Decides a.0.cut poison_text).0 t.0, subst (λ (x : List ℕ). IsWithout a.0 x) t.1 (written_cuts_are_there poison_identifier a.0 tbs is))

pub entry_here : (tbs c : List ℕ) → IsEntryOf tbs c → promised_entry_at tbs ≡ Ok c
unfolding promised_entry_at
entry_here tbs c (p, is, form, out) =
    rw (cuts_are_read poison_identifier p tbs is, (bytes_eq-Decides p.cut poison_text).1 form) (ap (λ (x : List ℕ). Ok x) (sym (cuts_are_written p c out)))

-- ---- the leaf

leaf_of_entry : (t : ℕ) (key entry x leaf : List ℕ) → t < 2 ^ 64 → length x < 2 ^ 16 → 0 < length entry → promised_leaf_at t key entry x ≡ Ok leaf
    → LeafText t (precertificate (sha256 key) entry) x leaf
leaf_of_entry t key entry x leaf moment short some e =
    let g = tested (ltb (length entry) 16777216) TooLong (leaf_text t (precertificate (sha256 key) entry) x) leaf e in
    let fits = ltb-true (length entry) 16777216 g.0 in
    record { timestamp = moment; entry = (length-sha256 key, (some, omega (arith, fits))); extensions = short; text = sym g.1 }

abbrev promised_3 : ℕ → List ℕ → Parts → List ℕ → Result (List ℕ) Unfit
promised_3 t x p issuer_tbs = in_document Issuer (key_at issuer_tbs) >>= λ key. promised_leaf_at t key (without p) x

abbrev promised_2 : List ℕ → ℕ → List ℕ → Parts → Result (List ℕ) Unfit
promised_2 issuer t x p = in_document Issuer (whole_tbs_at issuer) >>= promised_3 t x p

abbrev promised_1 : List ℕ → ℕ → List ℕ → List ℕ → Result (List ℕ) Unfit
promised_1 issuer t x tbs = in_document Certificate (parts_cut_at list_identifier tbs) >>= promised_2 issuer t x

some_entry : (p : Parts) → 0 < length (without p)
unfolding without
some_entry p = omega arith

-- the TBSCertificate that is read from a certificate consists of bytes
tbs_bytes : (t b : List ℕ) → IsBytes b → IsTbsOf t b → IsBytes t
tbs_bytes t b fits is =
    let content = content_bytes 48 (t ++ (is.algorithm ++ is.signature)) b is.text fits in
    bytes_before t (is.algorithm ++ is.signature) content

pub promised_found : (certificate issuer : List ℕ) (t : ℕ) (x leaf : List ℕ) → IsBytes certificate → IsBytes issuer → t < 2 ^ 64 → length x < 2 ^ 16
    → promised_at certificate issuer t x ≡ Ok leaf → IsPromised certificate issuer t x leaf
unfolding promised_at
promised_found certificate issuer t x leaf fits also moment short e =
    let a = bound (in_document Certificate (whole_tbs_at certificate)) (promised_1 issuer t x) leaf e in
    let p = bound (in_document Certificate (parts_cut_at list_identifier a.0)) (promised_2 issuer t x) leaf a.2 in
    let i = bound (in_document Issuer (whole_tbs_at issuer)) (promised_3 t x p.0) leaf p.2 in
    let k = bound (in_document Issuer (key_at i.0)) (λ key. promised_leaf_at t key (without p.0) x) leaf i.2 in
    let tbs = tbs_found a.0 certificate fits (document_ok Certificate (whole_tbs_at certificate) a.0 a.1) in
    let parted = read_cuts_are_there list_identifier p.0 a.0 (tbs_bytes a.0 certificate fits tbs)
    (document_ok Certificate (parts_cut_at list_identifier a.0) p.0 p.1) in
    let issuer_tbs = tbs_found i.0 issuer also (document_ok Issuer (whole_tbs_at issuer) i.0 i.1) in
    let key = key_found k.0 i.0 (tbs_bytes i.0 issuer also issuer_tbs) (document_ok Issuer (key_at i.0) k.0 k.1) in
    record {
      tbs = a.0;
      entry = without p.0;
      issuer_tbs = i.0;
      key = k.0;
      tbs_is = tbs;
      entry_is = (p.0, parted, written_cuts_are_there list_identifier p.0 a.0 parted);
      issuer_is = issuer_tbs;
      key_is = key;
      leaf_is = leaf_of_entry t k.0 (without p.0) x leaf moment short (some_entry p.0) k.2;
    }

in_range : (t : ℕ) (key entry x leaf : List ℕ) → LeafText t (precertificate (sha256 key) entry) x leaf → promised_leaf_at t key entry x ≡ Ok leaf
in_range t key entry x leaf is =
    let fits = is.entry.1.1 in
    rw (lt-ltb (length entry) 16777216 (omega (arith, fits))) (ap (λ (y : List ℕ). Ok y) (sym is.text))

pub promised_here : (certificate issuer : List ℕ) (t : ℕ) (x leaf : List ℕ) → IsPromised certificate issuer t x leaf
    → promised_at certificate issuer t x ≡ Ok leaf
unfolding promised_at
promised_here certificate issuer t x leaf is =
    let cut = is.entry_is in
    let written : without cut.0 ≡ is.entry = sym (cuts_are_written cut.0 is.entry cut.2) in
    rw (
      tbs_here is.tbs certificate is.tbs_is,
      cuts_are_read list_identifier cut.0 is.tbs cut.1,
      tbs_here is.issuer_tbs issuer is.issuer_is,
      key_here is.key is.issuer_tbs is.key_is,
      written,
    ) (in_range t is.key is.entry x leaf is.leaf_is)

-- ---- answers

pub entry_answered : (tbs : List ℕ) (r : Result (Vec ℕ) PromiseFault) → IsBytes tbs → GivesPromise (λ v. v.items) r (promised_entry_at tbs)
    → IfOk r (λ v. IsEntryOf tbs v.items)
entry_answered tbs (Ok v) fits given = entry_found tbs v.items fits given
entry_answered tbs (Err e) fits given = tt

pub leaf_answered : (certificate issuer : List ℕ) (t : ℕ) (x : List ℕ) (r : Result (Vec ℕ) PromiseFault) → IsBytes certificate → IsBytes issuer
    → t < 2 ^ 64 → length x < 2 ^ 16 → GivesPromise (λ v. v.items) r (promised_at certificate issuer t x)
    → IfOk r (λ v. IsPromised certificate issuer t x v.items)
leaf_answered certificate issuer t x (Ok v) fits also moment short given = promised_found certificate issuer t x v.items fits also moment short given
leaf_answered certificate issuer t x (Err e) fits also moment short given = tt

pub kept_promises_stand : KeptPromisesStand
kept_promises_stand H hash_length certificate issuer t x index size path root (leaf, is, accepts) D all mth =
    let there = subst (λ (n : ℕ). AcceptsInclusion H (hash_leaf H leaf) index n path (mth_of_leaves H D)) (sym all)
    (subst (λ (r : List ℕ). AcceptsInclusion H (hash_leaf H leaf) index size path r) (sym mth) accepts) in
    elim (accepted_path_is_path H hash_length D leaf index path there) [
      | inl audited ↦ inl (leaf, is, audited)
      | inr clash ↦ inr (collide_more H (IsHashedInAudit H D leaf index path) (IsHashedForPromise H certificate issuer t x index path D) (λ s w. (leaf, is, w)) clash)
    ]

pub kept_stands : (certificate issuer : List ℕ) (t : ℕ) (x : List ℕ) (index size : ℕ) (path : List (List ℕ)) (root : List ℕ)
    → IsPromiseKept certificate issuer t x index size path root → StandsInAll certificate issuer t x index size path root
kept_stands certificate issuer t x index size path root kept =
    kept_promises_stand sha256 length-sha256 certificate issuer t x index size path root kept
