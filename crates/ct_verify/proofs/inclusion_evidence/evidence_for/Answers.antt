use Rattle.std.proofs.Common.{length, [], sym, ◌∙◌, ap, Vec, Global, ℕ, List, map, Some, get_or, ◌≡◌}
use Rattle.std.specs.Option.{option_map}
use Rattle.std.proofs.lemmas.List.{get_or-map}
use Rattle.ct_verify.specs.Difference.{strings}
use Rattle.ct_verify.specs.Rebuild.{rebuild}
use Rattle.ct_verify.proofs.Explaining.{accepted, nothing_found, pair_found}
use Rattle.ct_verify.proofs.inclusion_evidence.evidence_for.Goals as goal

abbrev bytes : Vec ℕ Global → List ℕ
bytes l = l.items

pub returns-in-None : goal.returns-in-None
returns-in-None g c =
    let H = g.H.NodeHash.digest in
    let D = map bytes c.args.leaves.now in
    let a = accepted H g.met.H.NodeHash.length_digest bytes c.args.leaves.now c.args.leaf.now c.leaf_hash-hash.result c.compare-compared.result.listed
    c.args.index c.args.path.now
    c.leaf_hash-hash.ensures c.compare-compared.ensures.listed c.in_ok-verify_inclusion.ensures in
    let f = c.compare-compared.ensures.difference c.compare-compared.result.listed c.in_ok-verify_inclusion.ensures.0
    (ap (λ u. rebuild H c.args.index (length c.args.leaves.now) u c.args.path.now) (sym c.leaf_hash-hash.ensures) ∙ c.in_ok-verify_inclusion.ensures.1) in
    nothing_found H g.met.H.NodeHash.length_digest ℕ D c.args.leaf.now c.args.index c.args.path.now a
    (sym f ∙ ap (option_map (strings c.args.leaf.now (get_or D c.args.index []))) c.in-None.is)

pub returns-in_ok-collision-in-Some : goal.returns-in_ok-collision-in-Some
returns-in_ok-collision-in-Some g c =
    let H = g.H.NodeHash.digest in
    let D = map bytes c.args.leaves.now in
    let a = accepted H g.met.H.NodeHash.length_digest bytes c.args.leaves.now c.args.leaf.now c.leaf_hash-hash.result c.compare-compared.result.listed
    c.args.index c.args.path.now
    c.leaf_hash-hash.ensures c.compare-compared.ensures.listed c.in_ok-verify_inclusion.ensures in
    let f = c.compare-compared.ensures.difference c.compare-compared.result.listed c.in_ok-verify_inclusion.ensures.0
    (ap (λ u. rebuild H c.args.index (length c.args.leaves.now) u c.args.path.now) (sym c.leaf_hash-hash.ensures) ∙ c.in_ok-verify_inclusion.ensures.1) in
    let e : get_or D c.args.index [] ≡ c.deref.result.now =
    get_or-map bytes c.args.leaves.now c.args.index c.index-leaves-index.result [] c.in_ok-verify_inclusion.ensures.0
    ∙ sym (c.deref.ensures.value ∙ ap bytes c.index-leaves-index.is) in
    pair_found H g.met.H.NodeHash.length_digest D c.args.leaf.now c.args.index c.args.path.now
    (strings c.args.leaf.now c.deref.result.now c.in-Some.difference) c.in_ok-collision-in-Some.field-0 a
    (sym f ∙ ap (option_map (strings c.args.leaf.now (get_or D c.args.index []))) c.in-Some.is
    ∙ ap (λ o. Some (strings c.args.leaf.now o c.in-Some.difference)) e)
    c.in_ok-collision-in-Some.ensures
