use Rattle.std.proofs.Common.{Option, inl, inr, subst}
use Rattle.std.specs.Prelude.{◌⊎◌, MatchOption}
use Rattle.libwagtenib.specs.Witness.{cosigned, IsMessageOf, IsNoMessage}
use Rattle.libwagtenib.specs.declared.witness.Both.{Both}
use Rattle.libwagtenib.proofs.witness.wagtenib_witness_state.Goals as goal

pub returns-in-Ok-Some : goal.returns-in-Ok-Some
returns-in-Ok-Some c =
    let b = c.in-Ok-Some.both in
    let are = subst (λ (o : Option Both). MatchOption o (IsNoMessage c.args.state.now ⊎ IsNoMessage c.args.seen.now)
    (λ b. IsMessageOf (cosigned b.seen.origin.now b.seen.tree b.seen.time) c.args.seen.now
    × IsMessageOf (cosigned b.found.origin.now b.found.tree b.found.time) c.args.state.now)) c.in-Ok-Some.field-0-is c.in-Ok-Some.ensures in
    inr (inl (cosigned b.found.origin.now b.found.tree b.found.time, cosigned b.seen.origin.now b.seen.tree b.seen.time, are.1, are.0, c.write_later.ensures))
