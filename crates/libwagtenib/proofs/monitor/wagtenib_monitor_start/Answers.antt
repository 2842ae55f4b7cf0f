use Rattle.std.proofs.Common.{ℕ, List, inl, inr, refl, subst}
use Rattle.sha2.specs.Sha256.{sha256}
use Rattle.ct_monitor.specs.Starts.{IsMonitorStart, RefusesStart}
use Rattle.ct_tree.specs.declared.head.Head.{Head}
use Rattle.libwagtenib.specs.Output.{WritesOutput}
use Rattle.libwagtenib.proofs.monitor.wagtenib_monitor_start.Goals as goal

pub returns-in-Ok : goal.returns-in-Ok
returns-in-Ok c =
    let wrote = subst (λ (b : List ℕ). WritesOutput b c.write_output.result c.args.out.now c.write_output.new.memory c.write_output.new.length)
    c.deref.ensures.value c.write_output.ensures in
    let is = subst (λ (h : Head). IsMonitorStart sha256 h c.args.subtrees.now c.in-Ok.state.items) c.head_of.ensures c.in-Ok.ensures.written in
    inl (c.in-Ok.state.items, is, wrote)

pub returns-in-Err : goal.returns-in-Err
returns-in-Err c =
    let refuses = subst (λ (h : Head). RefusesStart sha256 c.in-Err.fault h c.args.subtrees.now) c.head_of.ensures c.in-Err.ensures.refused in
    inr (c.in-Err.fault, c.number_of_start.ensures, refuses, refl, refl)
