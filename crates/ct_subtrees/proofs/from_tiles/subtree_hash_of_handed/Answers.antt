use Rattle.std.proofs.Common.{◌≡◌, ◌-◌, ◌∙◌, ℕ, List, sym, ap, subst, take}
use Rattle.std.specs.Prelude.{All}
use Rattle.ct_tree.specs.Lengths.{path_length}
use Rattle.ct_tiles.specs.Needed.{path_tiles, GivesTile}
use Rattle.ct_tiles.specs.Handed.{contents_in, handed_fault, AreTilesOf, handed_hash}
use Rattle.ct_tiles.specs.declared.needed.NeededTile.{NeededTile}
use Rattle.ct_tiles.specs.declared.handed.HandedFault.TheVariants.{Memory}
use Rattle.ct_tiles.proofs.HandedOver.{own_not_refused, left_with}
use Rattle.ct_subtrees.proofs.Made.{path-first, hash-over}
use Rattle.ct_subtrees.proofs.FirstLeaf.{leaf_given}
use Rattle.ct_subtrees.proofs.from_tiles.subtree_hash_of_handed.Goals as goal

pub returns-in_err-tiles-clause-never_refused : goal.returns-in_err-tiles-clause-never_refused
returns-in_err-tiles-clause-never_refused g c =
    let H = g.H.NodeHash.digest in
    let contents = contents_in c.args.contents.now in
    let listed = c.deref.ensures.value ∙ c.in_ok-needed.ensures in
    let met = c.in_err-tiles.field-0.0 in
    let faulty = ap (λ x. handed_fault x contents) (sym listed) ∙ c.in_err-tiles.ensures.exact in
    left_with (λ fault. (D : List (List ℕ)) → AreTilesOf H D (path_tiles c.args.start c.args.end) contents → fault ≡ Memory) met
    c.from_residual-in_err-tiles.result c.from_residual-in_err-tiles.ensures.1
    (λ D are. absurd (own_not_refused H D (path_tiles c.args.start c.args.end) contents met faulty are))

pub returns-clause-hash : goal.returns-clause-hash
returns-clause-hash g c = λ D t f.
    let H = g.H.NodeHash.digest in
    let a = c.args in
    let s = c.in_ok-tiles.tiles in
    let contents = contents_in a.contents.now in
    let tiles = path_tiles a.start a.end in
    let made = c.in_ok-tiles.ensures.exact.1 in
    let own : s.0 ≡ tiles = ap (λ (p : List NeededTile × List (List ℕ)). p.0) made ∙ c.deref.ensures.value ∙ c.in_ok-needed.ensures in
    let bytes : s.1 ≡ contents = ap (λ (p : List NeededTile × List (List ℕ)). p.1) made in
    let are : AreTilesOf H D s.0 s.1 =
    subst (λ x. AreTilesOf H D x s.1) (sym own) (subst (λ x. AreTilesOf H D tiles x) (sym bytes) t) in
    let all : All (GivesTile H (handed_hash s.0 s.1) D) tiles = subst (All (GivesTile H (handed_hash s.0 s.1) D)) own (c.in_ok-tiles.ensures.gives H D are) in
    c.root_over.ensures
    ∙ hash-over H a.start a.end D c.hash-leaf.result c.deref-2.result.now c.requires f
    (c.hash-leaf.ensures ∙ leaf_given H (handed_hash s.0 s.1) D a.start a.end c.requires.0 c.ranges.end.fits f all)
    (c.deref-2.ensures.value
    ∙ c.inside-right.ensures
    ∙ ap (take (path_length 0 (a.end - a.start))) (c.in_ok-path.ensures.needed D all f)
    ∙ path-first H a.start a.end D c.requires f)
