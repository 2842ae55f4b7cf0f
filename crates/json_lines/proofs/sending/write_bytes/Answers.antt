use Rattle.std.proofs.Common.{◌<◌, length, arith, drop, length-drop, refl}
use Rattle.std.proofs.lemmas.Grind.{common_steps}
use Rattle.json_lines.proofs.Sent.{sending_more, sending_stops, sending_kept}
use Rattle.json_lines.proofs.sending.write_bytes.Goals as goal

pub returns-in-Ok-eq0-clause-some : goal.returns-in-Ok-eq0-clause-some
returns-in-Ok-eq0-clause-some g c =
    let rest = c.loop-rest.rest.now in
    let n = c.in-Ok-eq0.field-0 in
    let left : 0 < length rest = grind (arith, common_steps) in
    let more : 0 < length (drop n rest) = omega (arith, length-drop n rest, c.in-Ok-eq0.field-0-test) in
    let sent = sending_more _ _ _ c.args.bytes.now rest (drop n rest) n c.loop-rest.invariant c.in-Ok-eq0.ensures.bytes refl in
    sending_stops _ _ _ (drop n rest) sent more

pub loop-rest-preserved : goal.loop-rest-preserved
loop-rest-preserved g c =
    sending_more _ _ _ c.args.bytes.now c.loop-rest.rest.now c.split_at.result.1.now c.in-Ok.n c.loop-rest.invariant
    c.in-Ok.ensures.bytes c.split_at.ensures.back

pub returns-in-Err-clause-some : goal.returns-in-Err-clause-some
returns-in-Err-clause-some g c =
    let rest = c.loop-rest.rest.now in
    let left : 0 < length rest = grind (arith, common_steps) in
    let sent = sending_kept _ _ _ c.args.bytes.now rest c.loop-rest.invariant c.in-Err.ensures.bytes in
    sending_stops _ _ _ rest sent left
