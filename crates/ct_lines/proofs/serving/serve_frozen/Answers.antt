use Rattle.std.proofs.Common.{◌<◌, ◌++◌, [], length, length-append, arith, rules}
use Rattle.std.proofs.lemmas.Grind.{common_steps}
use Rattle.std.proofs.KnownBytes.{Consumes-nil, Consumes-trans, Consumes-kept}
use Rattle.ct_lines.specs.Frozen.{frozen_reply}
use Rattle.ct_lines.proofs.Pieces.{goes_none, goes_then, cut_between, cut_stopped, cut_last, has_stood, served_whole, stands_empty, consumed_none}
use Rattle.ct_lines.proofs.serving.serve_frozen.Goals.{in-Ok-end_line, in-Err-end_line}
use Rattle.ct_lines.proofs.serving.serve_frozen.Goals as goal

pub loop-turn-init : goal.loop-turn-init
loop-turn-init g c = record {
  within = omega arith;
  goes = (
    [],
    Consumes-nil (g.R.Read.remaining c.args.reader.now),
    goes_none (frozen_reply c.args.log.now) (g.W.Write.contents c.args.writer.now)
        c.new-kept.result.items 0 [] (stands_empty c.new-kept.result.items (search rules)),
    omega arith,
  );
}

pub feed-requires-clause-room : goal.feed-requires-clause-room
feed-requires-clause-room g c =
    let i = c.loop-turn.invariant.goes in
    has_stood (frozen_reply c.args.log.now) (g.W.Write.contents c.args.writer.now) (g.W.Write.contents c.loop-turn.writer)
    c.loop-turn.kept.items 0 c.loop-turn.count [] i.0 i.2

pub returns-in-Ok-eq0-clause-served : goal.returns-in-Ok-eq0-clause-served
returns-in-Ok-eq0-clause-served g c =
    let i = c.loop-turn.invariant.goes in
    let room : 0 < length c.read.new.buf = grind (arith, common_steps) in
    let consumed = consumed_none (g.R.Read.remaining c.args.reader.now) (g.R.Read.remaining c.loop-turn.reader) (g.R.Read.remaining c.read.new.self) i.0
    c.read.new.buf c.in-Ok-eq0.field-0 c.in-Ok-eq0.field-0-test i.1 c.in-Ok-eq0.ensures.bytes.0 in
    elim c.match-end_line.branch [
      | in-Ok-end_line w ↦ rw w.result-is (
        i.0,
        consumed,
        c.in-Ok-eq0.ensures.bytes.1 c.in-Ok-eq0.field-0-test room,
        served_whole (frozen_reply c.args.log.now) (g.W.Write.contents c.args.writer.now) (g.W.Write.contents c.loop-turn.writer)
            (g.W.Write.contents c.end_line.new.writer)
            c.loop-turn.kept.items c.loop-turn.count w.in-Ok-end_line.field-0 i.0 i.2 w.in-Ok-end_line.ensures.written,
      )
      | in-Err-end_line w ↦ rw w.result-is tt
    ]

pub returns-in-Ok-eq0-clause-fault : goal.returns-in-Ok-eq0-clause-fault
returns-in-Ok-eq0-clause-fault g c =
    let i = c.loop-turn.invariant.goes in
    let consumed = consumed_none (g.R.Read.remaining c.args.reader.now) (g.R.Read.remaining c.loop-turn.reader) (g.R.Read.remaining c.read.new.self) i.0
    c.read.new.buf c.in-Ok-eq0.field-0 c.in-Ok-eq0.field-0-test i.1 c.in-Ok-eq0.ensures.bytes.0 in
    elim c.match-end_line.branch [
      | in-Ok-end_line w ↦ rw w.result-is tt
      | in-Err-end_line w ↦
          let cut = cut_last (frozen_reply c.args.log.now) (g.W.Write.contents c.args.writer.now) (g.W.Write.contents c.loop-turn.writer)
          (g.W.Write.contents c.end_line.new.writer)
          c.loop-turn.kept.items c.loop-turn.count w.in-Err-end_line.fault i.0 i.2 w.in-Err-end_line.ensures.stopped w.in-Err-end_line.ensures.counted in
          rw w.result-is (i.0, cut.0, consumed, cut.1, cut.2)
    ]

pub returns-in-Ok-eq0-clause-ended : goal.returns-in-Ok-eq0-clause-ended
returns-in-Ok-eq0-clause-ended g c =
    let i = c.loop-turn.invariant.goes in
    let consumed = consumed_none (g.R.Read.remaining c.args.reader.now) (g.R.Read.remaining c.loop-turn.reader) (g.R.Read.remaining c.read.new.self) i.0
    c.read.new.buf c.in-Ok-eq0.field-0 c.in-Ok-eq0.field-0-test i.1 c.in-Ok-eq0.ensures.bytes.0 in
    elim c.match-end_line.branch [
      | in-Ok-end_line w ↦ rw w.result-is tt
      | in-Err-end_line w ↦
          let cut = cut_last (frozen_reply c.args.log.now) (g.W.Write.contents c.args.writer.now) (g.W.Write.contents c.loop-turn.writer)
          (g.W.Write.contents c.end_line.new.writer)
          c.loop-turn.kept.items c.loop-turn.count w.in-Err-end_line.fault i.0 i.2 w.in-Err-end_line.ensures.stopped w.in-Err-end_line.ensures.counted in
          rw w.result-is (i.0, cut.0, consumed, cut.1, cut.3)
    ]

pub returns-in-Err-feed-clause-fault : goal.returns-in-Err-feed-clause-fault
returns-in-Err-feed-clause-fault g c =
    let i = c.loop-turn.invariant.goes in
    let piece = c.split_at.result.0.now in
    let cut = cut_stopped (frozen_reply c.args.log.now) (g.W.Write.contents c.args.writer.now) (g.W.Write.contents c.loop-turn.writer)
    (g.W.Write.contents c.feed.new.writer)
    c.loop-turn.kept.items c.loop-turn.count c.in-Err-feed.fault i.0 piece i.2 c.in-Err-feed.ensures.stopped in (
      i.0 ++ piece,
      cut.0,
      Consumes-trans (g.R.Read.remaining c.args.reader.now) (g.R.Read.remaining c.loop-turn.reader) (g.R.Read.remaining c.read.new.self) i.0 piece i.1
          (rw c.split_at.ensures.front c.in-Ok.ensures.bytes.0),
      cut.1,
      cut.2,
    )

pub returns-in-Err-feed-clause-ended : goal.returns-in-Err-feed-clause-ended
returns-in-Err-feed-clause-ended g c =
    let i = c.loop-turn.invariant.goes in
    let piece = c.split_at.result.0.now in
    let cut = cut_stopped (frozen_reply c.args.log.now) (g.W.Write.contents c.args.writer.now) (g.W.Write.contents c.loop-turn.writer)
    (g.W.Write.contents c.feed.new.writer)
    c.loop-turn.kept.items c.loop-turn.count c.in-Err-feed.fault i.0 piece i.2 c.in-Err-feed.ensures.stopped in (
      i.0 ++ piece,
      cut.0,
      Consumes-trans (g.R.Read.remaining c.args.reader.now) (g.R.Read.remaining c.loop-turn.reader) (g.R.Read.remaining c.read.new.self) i.0 piece i.1
          (rw c.split_at.ensures.front c.in-Ok.ensures.bytes.0),
      cut.1,
      cut.3,
    )

pub returns-in-Err-clause-fault : goal.returns-in-Err-clause-fault
returns-in-Err-clause-fault g c =
    let i = c.loop-turn.invariant.goes in
    let cut = cut_between (frozen_reply c.args.log.now) (g.W.Write.contents c.args.writer.now) (g.W.Write.contents c.loop-turn.writer)
    c.loop-turn.kept.items c.loop-turn.count i.0 i.2 in (
      i.0,
      cut.0,
      Consumes-kept (g.R.Read.remaining c.args.reader.now) (g.R.Read.remaining c.loop-turn.reader) (g.R.Read.remaining c.read.new.self) i.0 i.1
          c.in-Err.ensures.bytes,
      cut.1,
      rw c.from.ensures cut.2,
    )

pub returns-in-Err-clause-ended : goal.returns-in-Err-clause-ended
returns-in-Err-clause-ended g c =
    let i = c.loop-turn.invariant.goes in
    let cut = cut_between (frozen_reply c.args.log.now) (g.W.Write.contents c.args.writer.now) (g.W.Write.contents c.loop-turn.writer)
    c.loop-turn.kept.items c.loop-turn.count i.0 i.2 in (
      i.0,
      cut.0,
      Consumes-kept (g.R.Read.remaining c.args.reader.now) (g.R.Read.remaining c.loop-turn.reader) (g.R.Read.remaining c.read.new.self) i.0 i.1
          c.in-Err.ensures.bytes,
      cut.1,
      rw c.from.ensures cut.3,
    )

pub loop-turn-preserved : goal.loop-turn-preserved
loop-turn-preserved g c =
    let i = c.loop-turn.invariant.goes in
    let piece = c.split_at.result.0.now in
    record {
      within = omega (
        arith,
        c.in-Ok-feed.ensures.bounded,
        c.loop-turn.invariant.within,
        c.split_at.ensures.front_len,
        c.in-Ok.ensures.bound.0,
        c.loop-turn-test.array_long,
      );
      goes = (
        i.0 ++ piece,
        Consumes-trans (g.R.Read.remaining c.args.reader.now) (g.R.Read.remaining c.loop-turn.reader) (g.R.Read.remaining c.read.new.self) i.0 piece i.1
            (rw c.split_at.ensures.front c.in-Ok.ensures.bytes.0),
        goes_then (frozen_reply c.args.log.now) (g.W.Write.contents c.args.writer.now) (g.W.Write.contents c.loop-turn.writer)
            (g.W.Write.contents c.feed.new.writer)
            c.loop-turn.kept.items c.feed.new.kept.items 0 c.loop-turn.count c.in-Ok-feed.more [] i.0 piece i.2 c.in-Ok-feed.ensures.served,
        omega (arith, i.3, c.split_at.ensures.front_len, length-append i.0 piece),
      );
    }

pub returns-clause-fault : goal.returns-clause-fault
returns-clause-fault g c =
    let i = c.loop-turn.invariant.goes in
    let cut = cut_between (frozen_reply c.args.log.now) (g.W.Write.contents c.args.writer.now) (g.W.Write.contents c.loop-turn.writer)
    c.loop-turn.kept.items c.loop-turn.count i.0 i.2 in
    (i.0, cut.0, i.1, cut.1, cut.2)

pub returns-clause-ended : goal.returns-clause-ended
returns-clause-ended g c =
    let i = c.loop-turn.invariant.goes in
    let cut = cut_between (frozen_reply c.args.log.now) (g.W.Write.contents c.args.writer.now) (g.W.Write.contents c.loop-turn.writer)
    c.loop-turn.kept.items c.loop-turn.count i.0 i.2 in
    (i.0, cut.0, i.1, cut.1, (cut.3, omega (arith, i.3)))
