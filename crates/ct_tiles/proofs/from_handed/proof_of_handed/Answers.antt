use Rattle.std.proofs.Common.{◌≡◌, ◌∙◌, ℕ, List, sym, ap, subst}
use Rattle.ct_verify.specs.Laws.{AreHashes}
use Rattle.ct_verify.proofs.ListProofs.{accepted_proof_is_of_beginning}
use Rattle.ct_tiles.specs.Needed.{proof_tiles}
use Rattle.ct_tiles.specs.Handed.{contents_in, handed_fault, AreTilesOf}
use Rattle.ct_tiles.specs.declared.handed.HandedFault.TheVariants.{Memory}
use Rattle.ct_tiles.proofs.HandedOver.{own_not_refused, left_with}
use Rattle.ct_tiles.proofs.from_handed.proof_of_handed.Goals as goal

pub returns-in_err-tiles-clause-never_refused : goal.returns-in_err-tiles-clause-never_refused
returns-in_err-tiles-clause-never_refused g c =
    let H = g.H.NodeHash.digest in
    let contents = contents_in c.args.contents.now in
    let listed = c.deref.ensures.value ∙ c.in_ok-needed.ensures in
    let met = c.in_err-tiles.field-0.0 in
    let faulty = ap (λ x. handed_fault x contents) (sym listed) ∙ c.in_err-tiles.ensures.exact in
    left_with (λ fault. (D : List (List ℕ)) → AreTilesOf H D (proof_tiles c.args.m c.args.n) contents → fault ≡ Memory) met c.from_residual-in_err-tiles.result
    c.from_residual-in_err-tiles.ensures.1 (λ D are. absurd (own_not_refused H D (proof_tiles c.args.m c.args.n) contents met faulty are))

pub returns-clause-hashes : goal.returns-clause-hashes
returns-clause-hashes g c = subst AreHashes c.deref-2.ensures.value c.are_hashes.ensures

pub returns-clause-tells : goal.returns-clause-tells
returns-clause-tells g c E D accepted =
    let are = subst AreHashes c.deref-2.ensures.value c.are_hashes.ensures in
    accepted_proof_is_of_beginning g.H.NodeHash.digest g.met.H.NodeHash.length_digest E D c.in_ok-proof.proof.items are accepted
