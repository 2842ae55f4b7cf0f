use Rattle.std.proofs.Common.{refl}
use Rattle.ct_names.proofs.FoundInBytes.{goes_on, counted_on, all_told}
use Rattle.ct_names.proofs.found_in_bytes.text_of.Goals as goal

pub rest-preserved : goal.rest-preserved
rest-preserved c =
    let some = c.in-len1-up.len_at_least in
    record {
      text = goes_on (λ w. w.now) c.args.low.now c.rest.text.items c.push_if_in.new.text.items _ c.rest.rest.now _ _ c.rest.position some refl c.rest.invariant.text
          c.in_ok-push_if_in.ensures;
      counted = counted_on c.rest.rest.now _ c.rest.position _ some refl c.rest.invariant.counted;
    }

pub returns : goal.returns
returns c = all_told (λ w. w.now) c.args.low.now c.rest.text.items _ c.rest.rest.now c.rest.position c.in_default.len_below c.rest.invariant.text
