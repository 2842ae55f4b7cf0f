use Rattle.std.proofs.Common.{◌++◌, [], Bool, length-append, length-take-le, take, refl, subst, arith}
use Rattle.json_lines.specs.Lines.{IsPiece}
use Rattle.ct_lines.specs.Frozen.{frozen_reply}
use Rattle.json_lines.proofs.KeptLines.{kept_fits}
use Rattle.ct_lines.proofs.Pieces.{done_more, goes_none, goes_bytes_at, goes_end_at, stops_end_at, stops_between_at}
use Rattle.ct_lines.proofs.serving.feed.Goals.{then-is_ended+in-Ok-end_line, else-is_ended}
use Rattle.ct_lines.proofs.serving.feed.Goals as goal

pub loop-rest-init : goal.loop-rest-init
loop-rest-init g c = record {
  room = c.requires.room;
  done = [];
  order = refl;
  within = omega arith;
  goes = λ line s.
      goes_none (frozen_reply c.args.log.now) (g.W.Write.contents c.args.writer.now) c.args.kept.now.items c.args.count line s;
}

pub returns-in-Err-clause-stopped : goal.returns-in-Err-clause-stopped
returns-in-Err-clause-stopped g c = λ line s. rw c.from.ensures (
    stops_between_at (frozen_reply c.args.log.now) (g.W.Write.contents c.args.writer.now) (g.W.Write.contents c.loop-rest.writer)
    c.loop-rest.kept.items c.args.count c.loop-rest.total line c.args.piece.now c.loop-rest.invariant.done c.loop-rest.rest.now
    c.loop-rest.invariant.order (c.loop-rest.invariant.goes line s))

pub returns-in-Err-end_line-clause-stopped : goal.returns-in-Err-end_line-clause-stopped
returns-in-Err-end_line-clause-stopped g c = λ line s.
    let rest = c.loop-rest.rest.now in
    let end = c.in-Ok.cut.0 in
    let piece = subst (λ (b : Bool). IsPiece rest end b) c.if-is_ended.true c.in-Ok.ensures.piece in
    stops_end_at (frozen_reply c.args.log.now) (g.W.Write.contents c.args.writer.now) (g.W.Write.contents c.loop-rest.writer)
    (g.W.Write.contents c.end_line.new.writer)
    c.loop-rest.kept.items c.cut_piece.new.line.items c.args.count c.loop-rest.total end c.in-Err-end_line.fault line c.args.piece.now
    c.loop-rest.invariant.done rest c.loop-rest.invariant.order (c.loop-rest.invariant.goes line s) piece c.in-Ok.ensures.kept
    c.in-Err-end_line.ensures.stopped c.in-Err-end_line.ensures.counted

pub loop-rest-preserved : goal.loop-rest-preserved
loop-rest-preserved g c =
    let i = c.loop-rest.invariant in
    let rest = c.loop-rest.rest.now in
    let end = c.in-Ok.cut.0 in
    let order = done_more c.args.piece.now i.done rest c.split_at.result.1.now end i.order c.split_at.ensures.back in
    let long = length-append i.done (take end rest) in
    let some = length-take-le end rest c.in-Ok.ensures.piece.within in
    elim c.if-is_ended.branch [
      | then-is_ended+in-Ok-end_line w ↦
          let piece = subst (λ (b : Bool). IsPiece rest end b) w.if-is_ended.true c.in-Ok.ensures.piece in
          let cut = piece.ends refl in
          rw (w.total-is, w.kept-is, w.writer-is) (record {
            room = rw w.in-Ok-end_line.ensures.forgotten (omega arith);
            done = i.done ++ take end rest;
            order = order;
            within = omega (arith, w.in-Ok-end_line.ensures.bounded, i.within, long, some, cut.0);
            goes = λ line s.
                goes_end_at (frozen_reply c.args.log.now) (g.W.Write.contents c.args.writer.now) (g.W.Write.contents c.loop-rest.writer)
                (g.W.Write.contents w.end_line.new.writer)
                c.loop-rest.kept.items c.cut_piece.new.line.items w.end_line.new.kept.items c.args.count c.loop-rest.total w.in-Ok-end_line.more end line
                i.done rest (i.goes line s) piece c.in-Ok.ensures.kept w.in-Ok-end_line.ensures.written w.in-Ok-end_line.ensures.forgotten;
          })
      | else-is_ended w ↦
          let piece = subst (λ (b : Bool). IsPiece rest end b) w.if-is_ended.false c.in-Ok.ensures.piece in
          rw (w.total-is, w.kept-is, w.writer-is) (record {
            room = kept_fits 1048578 _ _ c.in-Ok.ensures.kept;
            done = i.done ++ take end rest;
            order = order;
            within = omega (arith, i.within, long);
            goes = λ line s.
                goes_bytes_at (frozen_reply c.args.log.now) (g.W.Write.contents c.args.writer.now) (g.W.Write.contents c.loop-rest.writer)
                c.loop-rest.kept.items c.cut_piece.new.line.items c.args.count c.loop-rest.total end line
                i.done rest (i.goes line s) piece c.in-Ok.ensures.kept;
          })
    ]
