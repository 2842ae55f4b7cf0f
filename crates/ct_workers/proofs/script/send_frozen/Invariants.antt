use Rattle.std.proofs.Common.{map, take}
use Rattle.std.specs.List.{concat}
use Rattle.std.specs.Io.KnownBytes.{Appends}
use Rattle.ct_workers.specs.Output.{request_reply}
use Rattle.ct_workers.proofs.script.send_frozen.Given as goal

abbrev pub invariant-loop-request : goal.invariant-loop-request
invariant-loop-request g l =
    Appends (g.W.Write.contents l.fn.output) (g.W.Write.contents l.output) (concat (map (request_reply l.log) (take l.request-index l.requests)))
