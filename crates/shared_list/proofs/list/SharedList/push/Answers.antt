use Rattle.std.proofs.Common.{List, [], ◌∷◌, ◌++◌, ap, ◌∙◌}
use Rattle.shared_list.proofs.InParts.{moved, stayed, grown, pushed}
use Rattle.shared_list.proofs.list.SharedList.push.Goals as goal

pub invariant_of-self : goal.invariant_of-self
invariant_of-self g c = moved 16384 c.self.inside.len c.self.inside.blocks c.make_room.new.blocks c.self.inside.row c.make_room.new.row c.self.invariant
    c.make_room.ensures.same c.make_room.ensures.each c.make_room.ensures.short

pub invariant_of-self-in_err-push : goal.invariant_of-self-in_err-push
invariant_of-self-in_err-push g c =
    let room = moved 16384 c.self.inside.len c.self.inside.blocks c.make_room.new.blocks c.self.inside.row c.make_room.new.row c.self.invariant
    c.make_room.ensures.same c.make_room.ensures.each c.make_room.ensures.short in
    stayed 16384 c.self.inside.len c.make_room.new.blocks c.make_room.new.row c.push.new.self room c.in_err-push.ensures.err

pub invariant_of-self-2 : goal.invariant_of-self-2
invariant_of-self-2 g c =
    let room = moved 16384 c.self.inside.len c.self.inside.blocks c.make_room.new.blocks c.self.inside.row c.make_room.new.row c.self.invariant
    c.make_room.ensures.same c.make_room.ensures.each c.make_room.ensures.short in
    pushed 16384 c.self.inside.len c.in_ok-len.len c.make_room.new.blocks c.make_room.new.row c.push.new.self c.args.value room
    c.in_ok-make_room.ensures.room c.in_ok-push.ensures.ok c.in_ok-len.ensures

pub returns-clause-ok : goal.returns-clause-ok
returns-clause-ok g c =
    grown c.make_room.new.blocks c.make_room.new.row c.push.new.self c.args.value c.in_ok-push.ensures.ok
    ∙ ap (λ (r : List _). r ++ c.args.value ∷ []) (c.make_room.ensures.same ∙ c.self.view_is)
