-- Verdicts on proofs of inclusion.
use Rattle.std.proofs.Common.{◌≡◌, ◌<◌, ℕ, List, length, Option, Some, None, Result, Ok, Err, Bool, true, false, ◌&&◌, nat_lt, cond, refl, sym, ap, ◌∙◌, arith}
use Rattle.std.proofs.lemmas.Bool.Decides.{nat_tests}
use Rattle.std.proofs.lemmas.Bool.{false≢true}
use Rattle.std.proofs.lemmas.Slice.Eq.{bytes_eq-Decides}
use Rattle.std.specs.Global.{Global}
use Rattle.sha2.specs.Sha256.{sha256}
use Rattle.ct_tree.specs.Tree.{hash_leaf, mth_of_leaves}
use Rattle.ct_verify.specs.Rebuild.{rebuild}
use Rattle.ct_verify.specs.Evidence.{evid}
use Rattle.ct_verify.specs.Verdict.{AcceptsInclusion, RefusesInclusion}
use Rattle.std.specs.Prelude.{◌≢◌, MatchResult}
use Rattle.std.specs.Result.{is_ok}
use Rattle.ct_verify.specs.InclusionEvidence.{IsAccepted, InclusionEvidence, InclusionFault}
use Rattle.ct_verify.specs.declared.evidence.EvidenceFault.{EvidenceFault}
use Rattle.ct_verify.specs.declared.evidence.EvidenceFault.TheVariants.{ProofRefused, Memory as NoEvidence}
use Rattle.ct_verify.specs.declared.evidence.Evidence.{Evidence}
use Rattle.ct_verify.specs.declared.evidence.Evidence.TheVariants.{Holds, Collision}
use Rattle.ct_verify.specs.Laws.{PathNotRefused}
use Rattle.ct_verify.specs.declared.fault.ProofFault.{ProofFault}
use Rattle.ct_codec.specs.declared.refusal.Refusal.{Refusal}
use Rattle.ct_codec.specs.declared.refusal.Refusal.TheVariants.{Memory}
use Rattle.ct_core.specs.declared.query.Reply.{Reply}
use Rattle.ct_core.specs.declared.query.Reply.TheVariants.{Refused}
use Rattle.ct_core.specs.Replies.{proof_refused, shown}
use Rattle.ct_lines.specs.Verdicts.{is_root, is_accepted, verdict_on, verdict, evidence_answer}

is_root-true : (o : Option (List ℕ)) (root : List ℕ) → is_root o root ≡ true → o ≡ Some root
is_root-true None root e = absurd (false≢true e)
is_root-true (Some r) root e = ap Some ((bytes_eq-Decides r root).0 e)

both : (t u : Bool) → (t && u) ≡ true → (t ≡ true) × (u ≡ true)
both true u e = (refl, e)
both false u e = absurd (false≢true e)

-- the path leads to the root, by the definition that the verifier uses
accepts : (D : List (List ℕ)) (leaf : List ℕ) (m : ℕ) (p : List (List ℕ)) → is_accepted D leaf m p ≡ true → IsAccepted sha256 D leaf m p
accepts D leaf m p e =
    let t = both (nat_lt m (length D)) (is_root (rebuild sha256 m (length D) (hash_leaf sha256 leaf) p) (mth_of_leaves sha256 D)) e in
    let below : m < length D = grind (arith, nat_tests, t.0) in
    (below, is_root-true (rebuild sha256 m (length D) (hash_leaf sha256 leaf) p) (mth_of_leaves sha256 D) t.1)

accepted : (D : List (List ℕ)) (leaf : List ℕ) (m : ℕ) (p : List (List ℕ)) → IsAccepted sha256 D leaf m p → is_accepted D leaf m p ≡ true
accepted D leaf m p a =
    let below : nat_lt m (length D) ≡ true = grind (arith, nat_tests, a.0) in
    ap (λ t. t && is_root (rebuild sha256 m (length D) (hash_leaf sha256 leaf) p) (mth_of_leaves sha256 D)) below
    ∙ ap (λ o. is_root o (mth_of_leaves sha256 D)) a.1 ∙ (bytes_eq-Decides (mth_of_leaves sha256 D) (mth_of_leaves sha256 D)).1 refl

-- the verifier accepts if and only if the path leads to the root
pub accepted-judged : (D : List (List ℕ)) (leaf : List ℕ) (m : ℕ) (p : List (List ℕ)) (r : Result (Unit {0}) ProofFault) → PathNotRefused
    → MatchResult r (λ _. AcceptsInclusion sha256 (hash_leaf sha256 leaf) m (length D) p (mth_of_leaves sha256 D))
    (RefusesInclusion sha256 (hash_leaf sha256 leaf) m (length D) p (mth_of_leaves sha256 D))
    → is_ok r ≡ is_accepted D leaf m p
accepted-judged D leaf m p (Ok u) law a = sym (accepted D leaf m p a)
accepted-judged D leaf m p (Err fault) law r = go (is_accepted D leaf m p) refl
  where
    go : (t : Bool) → is_accepted D leaf m p ≡ t → false ≡ is_accepted D leaf m p
    go false e = sym e
    go true e = absurd (law sha256 (hash_leaf sha256 leaf) m (length D) p (mth_of_leaves sha256 D) fault (accepts D leaf m p e) r)

pub verdict-evidence : (D : List (List ℕ)) (leaf : List ℕ) (m : ℕ) (p : List (List ℕ)) (e : Evidence Global) → InclusionEvidence sha256 D leaf m p e
    → evidence_answer e ≡ verdict D leaf m p
unfolding verdict
verdict-evidence D leaf m p Holds h =
    sym (ap (λ t. cond t (verdict_on (evid sha256 D leaf m p)) proof_refused) (accepted D leaf m p h.0) ∙ ap verdict_on h.1)
verdict-evidence D leaf m p (Collision x y) h =
    sym (ap (λ t. cond t (verdict_on (evid sha256 D leaf m p)) proof_refused) (accepted D leaf m p h.0) ∙ ap verdict_on h.1)

pub verdict-refused : (D : List (List ℕ)) (leaf : List ℕ) (m : ℕ) (p : List (List ℕ)) (fault : ProofFault) → PathNotRefused
    → RefusesInclusion sha256 (hash_leaf sha256 leaf) m (length D) p (mth_of_leaves sha256 D) fault → proof_refused ≡ verdict D leaf m p
unfolding verdict
verdict-refused D leaf m p fault law r = go (is_accepted D leaf m p) refl
  where
    go : (t : Bool) → is_accepted D leaf m p ≡ t → proof_refused ≡ cond (is_accepted D leaf m p) (verdict_on (evid sha256 D leaf m p)) proof_refused
    go false e = sym (ap (λ t. cond t (verdict_on (evid sha256 D leaf m p)) proof_refused) e)
    go true e = absurd (law sha256 (hash_leaf sha256 leaf) m (length D) p (mth_of_leaves sha256 D) fault (accepts D leaf m p e) r)

-- the result if there is no evidence
pub verdict-fault : (D : List (List ℕ)) (leaf : List ℕ) (m : ℕ) (p : List (List ℕ)) (fault : EvidenceFault) (r : Result Reply Refusal) → PathNotRefused
    → InclusionFault sha256 D leaf m p fault
    → MatchResult r (λ x. (x ≡ Refused) × (fault ≢ NoEvidence)) (λ e. (e ≡ Memory) × (fault ≡ NoEvidence))
    → MatchResult r (λ x. shown x ≡ verdict D leaf m p) (λ e. e ≡ Memory)
verdict-fault D leaf m p fault (Err e) law f said = said.0
verdict-fault D leaf m p (ProofRefused v) (Ok x) law f said = ap shown said.0 ∙ verdict-refused D leaf m p v law f
verdict-fault D leaf m p NoEvidence (Ok x) law f said = absurd (said.1 refl)
