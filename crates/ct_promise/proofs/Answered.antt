-- The meaning of a result in terms of the grammar.
use Rattle.std.proofs.Common.{ℕ, List, Result, Ok, Err, Bor}
use Rattle.std.specs.Prelude.{IfOk}
use Rattle.ct_promise.specs.DerLaws.{IsBytes}
use Rattle.ct_promise.specs.DerReading.{Gives}
use Rattle.ct_promise.specs.declared.cutting.Cut.{Cut}
use Rattle.ct_promise.specs.declared.fault.CutFault.{CutFault}
use Rattle.ct_promise.specs.Tbs.{IsParted, IsTbsOf, IsKeyOf}
use Rattle.ct_promise.specs.Reading.{parts_cut_at, whole_tbs_at, key_at}
use Rattle.ct_promise.specs.Cuts.{parts_of}
use Rattle.ct_promise.proofs.Found.{read_cuts_are_there, tbs_found, key_found}

pub is_parted : (identifier b : List ℕ) (r : Result Cut CutFault) → IsBytes b → Gives (λ c. parts_of c) r (parts_cut_at identifier b)
    → IfOk r (λ c. IsParted identifier (parts_of c) b)
is_parted identifier b (Ok c) fits given = read_cuts_are_there identifier (parts_of c) b fits given
is_parted identifier b (Err e) fits given = tt

pub is_tbs : (b : List ℕ) (r : Result (Bor (List ℕ)) CutFault) → IsBytes b → Gives (λ x. x.now) r (whole_tbs_at b) → IfOk r (λ x. IsTbsOf x.now b)
is_tbs b (Ok x) fits given = tbs_found x.now b fits given
is_tbs b (Err e) fits given = tt

pub is_key : (b : List ℕ) (r : Result (Bor (List ℕ)) CutFault) → IsBytes b → Gives (λ x. x.now) r (key_at b) → IfOk r (λ x. IsKeyOf x.now b)
is_key b (Ok x) fits given = key_found x.now b fits given
is_key b (Err e) fits given = tt
