use Rattle.std.proofs.Common.{ℕ, map, ap, ◌∙◌}
use Rattle.std.specs.Prelude.{position}
use Rattle.std.specs.Str.{bytes_eq}
use Rattle.shared_table.specs.Looked.{first_where, places_from}
use Rattle.ct_core.specs.LeafHashes.{address_of, is_hash_at}
use Rattle.ct_core.proofs.HashPlaces.{first_of_hash}
use Rattle.ct_core.proofs.leaf_table.LeafTable.index_of.Goals as goal

pub returns : goal.returns
returns c =
    let hashes = c.self.inside.nodes in
    let hash = c.args.leaf_hash.now in
    c.first_place.ensures
    ∙ ap (first_where (is_hash_at hashes hash)) (c.self.invariant c.address.result)
    ∙ ap (λ (a : ℕ). first_where (is_hash_at hashes hash) (places_from 0 (map address_of hashes) a)) c.address.ensures
    ∙ first_of_hash hashes hash
    ∙ ap (position (bytes_eq hash)) c.self.view_is
