use Rattle.std.proofs.Common.{ℕ, List, inl, subst}
use Rattle.libwagtenib.specs.Output.{WritesOutput}
use Rattle.libwagtenib.proofs.monitor.wagtenib_monitor_begin.Goals as goal

pub returns-in-Ok : goal.returns-in-Ok
returns-in-Ok c =
    let wrote = subst (λ (b : List ℕ). WritesOutput b c.write_output.result c.args.out.now c.write_output.new.memory c.write_output.new.length)
    c.deref.ensures.value c.write_output.ensures in
    inl (c.in-Ok.state.items, c.in-Ok.ensures, wrote)
