use Rattle.std.proofs.Common.{◌≡◌, List, ℕ, [], ◌∷◌, ◌+◌, ◌++◌, length, map, take, ap, sym, ◌∙◌, subst, append_assoc}
use Rattle.std.proofs.lemmas.List.{length-append, take_all}
use Rattle.shared_table.specs.Looked.{places_from}
use Rattle.ct_core.specs.Leaf.{Entry, leaves_of}
use Rattle.ct_core.specs.LeafHashes.{address_of, AreNoted}
use Rattle.ct_core.specs.Tree.{sha256_leaf}
use Rattle.ct_core.proofs.HashPlaces.{hashes_more}
use Rattle.ct_core.proofs.leaf_table.take_all_in.Goals as goal

pub loop-entry-preserved : goal.loop-entry-preserved
loop-entry-preserved c =
    let i = c.loop-entry.entry-index in
    let nodes = c.args.nodes.now in
    let hash = c.leaf_hash.result in
    let hashes : List (List ℕ) = map sha256_leaf (leaves_of (take i c.args.entries.now)) in
    let (taken, noted) = c.loop-entry.invariant in
    let step = hashes_more c.args.entries.now i c.entry-item.result hash c.loop-entry-test.true c.entry-item.is c.leaf_hash.ensures in
    let count : length c.loop-entry.nodes ≡ length nodes + length hashes = ap length taken ∙ length-append nodes hashes in
    let pushed : c.take_in.new.nodes ≡ nodes ++ (hashes ++ hash ∷ []) = c.in_ok-take_in.ensures.pushed
    ∙ ap (λ (ns : List (List ℕ)). ns ++ hash ∷ []) taken ∙ append_assoc nodes hashes (hash ∷ []) in (
      pushed ∙ ap (λ (hs : List (List ℕ)). nodes ++ hs) (sym step),
      λ a. c.in_ok-take_in.ensures.noted (length nodes) hashes count noted a
          ∙ ap (λ (hs : List (List ℕ)). places_from (length nodes) (map address_of hs) a) (sym step),
    )

pub returns-clause-pushed : goal.returns-clause-pushed
returns-clause-pushed c =
    let all = take_all c.loop-entry.entry-index c.args.entries.now c.loop-entry-test.false in
    let (taken, noted) = c.loop-entry.invariant in
    taken ∙ ap (λ (es : List Entry). c.args.nodes.now ++ map sha256_leaf (leaves_of es)) all

pub returns-clause-noted : goal.returns-clause-noted
returns-clause-noted c =
    let all = take_all c.loop-entry.entry-index c.args.entries.now c.loop-entry-test.false in
    let (taken, noted) = c.loop-entry.invariant in
    subst (λ (es : List Entry). AreNoted c.loop-entry.slots.items (length c.args.nodes.now) (map sha256_leaf (leaves_of es))) all noted
