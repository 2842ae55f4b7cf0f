use Rattle.std.proofs.Common.{rules}
use Rattle.json_lines.proofs.KeptLines.{has_room, kept_so_far, line_taken, more_so_far, none_so_far, of_error, taken_is_one}
use Rattle.json_lines.proofs.lines.take_line.Goals as goal

pub loop-turn-init : goal.loop-turn-init
loop-turn-init g c = none_so_far c.args.most _ c.args.line.now.items c.requires

pub take_piece-requires : goal.take_piece-requires
take_piece-requires g c = has_room c.args.most _ _ c.loop-turn.line.items c.loop-turn.invariant

pub returns-in_err-take_piece-clause-none_lost : goal.returns-in_err-take_piece-clause-none_lost
returns-in_err-take_piece-clause-none_lost g c =
    of_error c.from_residual.result (kept_so_far c.args.most _ _ _ c.loop-turn.line.items c.take_piece.new.line.items c.take_piece.result
    c.loop-turn.invariant c.take_piece.ensures (search rules))

pub returns-then-branch-clause-line : goal.returns-then-branch-clause-line
returns-then-branch-clause-line g c =
    line_taken c.args.most _ _ _ c.loop-turn.line.items c.take_piece.new.line.items c.take_piece.result c.loop-turn.invariant c.take_piece.ensures
    (search rules)

pub returns-then-branch-clause-one : goal.returns-then-branch-clause-one
returns-then-branch-clause-one g c =
    taken_is_one c.args.most _ _ _ c.loop-turn.line.items c.take_piece.new.line.items c.take_piece.result c.loop-turn.invariant c.take_piece.ensures
    (search rules)

pub loop-turn-preserved : goal.loop-turn-preserved
loop-turn-preserved g c =
    more_so_far c.args.most _ _ _ c.loop-turn.line.items c.take_piece.new.line.items c.take_piece.result c.loop-turn.invariant c.take_piece.ensures
    (search rules)
