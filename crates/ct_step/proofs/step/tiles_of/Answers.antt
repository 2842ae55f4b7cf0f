use Rattle.std.proofs.Common.{◌≡◌, ◌∙◌, ◌%◌, ℕ, List, length, map, arith, ap, subst, Vec, Global}
use Rattle.std.specs.Option.{MatchOption}
use Rattle.std.specs.declared.option.Option.{Option}
use Rattle.ct_data_tiles.proofs.Rows.{text_in}
use Rattle.ct_step.specs.Steps.{tile_hashes}
use Rattle.ct_step.proofs.Handed.{IsWhole, not_whole, cut-step}
use Rattle.ct_step.proofs.Loops.{mapped-at, mapped-more}
use Rattle.ct_step.proofs.step.tiles_of.Goals as goal

pub returns-in_default : goal.returns-in_default
returns-in_default c = λ T bytes hashes.
    let edge = c.args.edge.now in
    let stops : IsWhole c.deref.result.now → ⊥ =
    subst (λ (o : Option (Vec (List ℕ) Global)). MatchOption o (IsWhole c.deref.result.now → ⊥)
    (λ h. (length c.deref.result.now % 32 ≡ 0) × (h.items ≡ tile_hashes c.deref.result.now))) c.in_default.is c.in_ok-hashes.ensures in
    let whole : IsWhole c.bytes-item.result.items =
    mapped-at text_in IsWhole edge c.loop-bytes.bytes-index c.bytes-item.result (not_whole T (map text_in edge) bytes hashes) c.loop-bytes-test.true c.bytes-item.is in
    stops (omega (arith, ap length c.deref.ensures.value, whole))

pub loop-bytes-preserved : goal.loop-bytes-preserved
loop-bytes-preserved c =
    let l = c.loop-bytes in
    let x = c.bytes-item.result in
    let found : (length c.deref.result.now % 32 ≡ 0) × (c.in-Some.hashes.items ≡ tile_hashes c.deref.result.now) =
    subst (λ (o : Option (Vec (List ℕ) Global)). MatchOption o (IsWhole c.deref.result.now → ⊥)
    (λ h. (length c.deref.result.now % 32 ≡ 0) × (h.items ≡ tile_hashes c.deref.result.now))) c.in-Some.is c.in_ok-hashes.ensures in
    record {
      whole = mapped-more text_in IsWhole c.args.edge.now l.bytes-index x c.loop-bytes-test.true c.bytes-item.is l.invariant.whole
          (omega (arith, ap length c.deref.ensures.value, found.0));
      hashes = cut-step l.bytes-index c.args.edge.now x l.tiles.items c.push.new.self.items c.in-Some.hashes c.loop-bytes-test.true c.bytes-item.is
          (found.1 ∙ ap tile_hashes c.deref.ensures.value) c.in_ok-push.ensures.items l.invariant.hashes;
    }
