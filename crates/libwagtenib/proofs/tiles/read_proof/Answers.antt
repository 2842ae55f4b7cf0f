use Rattle.std.proofs.Common.{ℕ, List, length, ap, arith, Vec, Global}
use Rattle.ct_tiles.specs.Handed.{contents_in}
use Rattle.libwagtenib.proofs.tiles.read_proof.Goals as goal

pub made_proof-requires-clause-few : goal.made_proof-requires-clause-few
made_proof-requires-clause-few c =
    omega (arith, ap (λ (x : List (Vec ℕ Global)). length (contents_in x)) c.deref.ensures.value, ap length c.in-Ok.ensures.0, c.in-Ok.ensures.1)

pub returns-in-Ok : goal.returns-in-Ok
returns-in-Ok c = rw (c.deref.ensures.value, c.in-Ok.ensures.0) at c.made_proof.ensures
