-- One extension after the other, as a loop reads them.
use Rattle.std.proofs.Common.{◌≡◌, ℕ, zero, suc, ◌≤◌, ◌<◌, Bool, true, false, cond, List, [], ◌∷◌, length, Result, Ok, Err, refl, sym, ap, ◌∙◌, arith}
use Rattle.std.specs.Prelude.{bytes_eq}
use Rattle.ct_promise.specs.DerReading.{◌>>=◌}
use Rattle.ct_promise.specs.declared.fault.CutFault.{CutFault}
use Rattle.ct_promise.specs.declared.fault.CutFault.TheVariants.{NoExtension, SecondExtension}
use Rattle.ct_promise.specs.Reading.{extension_with_at, others_at, sole_at}

abbrev pub Read : Type 0
Read = List ℕ × List ℕ × List ℕ

-- the result for the rest is the result for all the bytes
pub record Going {X : Type 0} (f : ℕ → List ℕ → Result X CutFault) (rest bytes : List ℕ) : Type 0 where
  pub room : ℕ
  pub enough : length rest ≤ room
  pub total : f room rest ≡ f (length bytes) bytes

pub starts : {X : Type 0} (f : ℕ → List ℕ → Result X CutFault) (bytes : List ℕ) → Going f bytes bytes
starts f bytes = record { room = length bytes; enough = omega arith; total = refl }

-- ---- no other extension has the identifier

abbrev pub others_step : List ℕ → ℕ → Read → Result (List ℕ) CutFault
others_step identifier n e = cond (bytes_eq e.0 identifier) (Err SecondExtension) (others_at identifier n e.2)

pub others_next : (identifier : List ℕ) (n : ℕ) (rest : List ℕ) → 0 < length rest → length rest ≤ n
    → (m : ℕ) × (n ≡ suc m) × (others_at identifier n rest ≡ (extension_with_at rest >>= others_step identifier m))
unfolding others_at
others_next identifier n [] some room = absurd (omega arith)
others_next identifier zero (x ∷ b) some room = absurd (omega arith)
others_next identifier (suc n) (x ∷ b) some room = (n, refl, refl)

pub others_go_on : (identifier rest bytes : List ℕ) (e : Read) → Going (others_at identifier) rest bytes → 0 < length rest
    → length e.2 < length rest → extension_with_at rest ≡ Ok e → bytes_eq e.0 identifier ≡ false → Going (others_at identifier) e.2 bytes
others_go_on identifier rest bytes e g some shorter read other =
    let step = others_next identifier g.room rest some g.enough in
    let one : others_at identifier g.room rest ≡ others_at identifier step.0 e.2 =
    step.2 ∙ ap (λ (x : Result Read CutFault). x >>= others_step identifier step.0) read
    ∙ ap (λ (b : Bool). cond b (Err SecondExtension) (others_at identifier step.0 e.2)) other in
    record { room = step.0; enough = omega (arith, step.1, g.enough, shorter); total = sym one ∙ g.total }

pub others_second : (identifier rest bytes : List ℕ) (e : Read) → Going (others_at identifier) rest bytes → 0 < length rest
    → extension_with_at rest ≡ Ok e → bytes_eq e.0 identifier ≡ true → others_at identifier (length bytes) bytes ≡ Err SecondExtension
others_second identifier rest bytes e g some read same =
    let step = others_next identifier g.room rest some g.enough in
    sym g.total ∙ step.2 ∙ ap (λ (x : Result Read CutFault). x >>= others_step identifier step.0) read
    ∙ ap (λ (b : Bool). cond b (Err SecondExtension) (others_at identifier step.0 e.2)) same

pub others_fail : (identifier rest bytes : List ℕ) (u : CutFault) → Going (others_at identifier) rest bytes → 0 < length rest
    → extension_with_at rest ≡ Err u → others_at identifier (length bytes) bytes ≡ Err u
others_fail identifier rest bytes u g some read =
    let step = others_next identifier g.room rest some g.enough in
    sym g.total ∙ step.2 ∙ ap (λ (x : Result Read CutFault). x >>= others_step identifier step.0) read

none_left : (identifier : List ℕ) (n : ℕ) (rest : List ℕ) → length rest ≡ 0 → others_at identifier n rest ≡ Ok []
unfolding others_at
none_left identifier zero rest none = refl
none_left identifier (suc n) [] none = refl
none_left identifier (suc n) (x ∷ b) none = absurd (omega (arith, none))

nothing : (rest : List ℕ) → length rest ≡ 0 → [] ≡ rest
nothing [] none = refl
nothing (x ∷ b) none = absurd (omega (arith, none))

pub others_done : (identifier rest bytes : List ℕ) → Going (others_at identifier) rest bytes → length rest ≡ 0
    → others_at identifier (length bytes) bytes ≡ Ok rest
others_done identifier rest bytes g none =
    sym g.total ∙ none_left identifier g.room rest none ∙ ap (λ (l : List ℕ). Ok l) (nothing rest none)

-- ---- the extension that has it

abbrev pub sole_step : List ℕ → ℕ → List ℕ → Read → Result Read CutFault
sole_step identifier n rest e =
    cond (bytes_eq e.0 identifier) (others_at identifier (length e.2) e.2 >>= λ none. Ok (rest, e.1, e.2)) (sole_at identifier n e.2)

pub sole_next : (identifier : List ℕ) (n : ℕ) (rest : List ℕ) → 0 < length rest → length rest ≤ n
    → (m : ℕ) × (n ≡ suc m) × (sole_at identifier n rest ≡ (extension_with_at rest >>= sole_step identifier m rest))
unfolding sole_at
sole_next identifier n [] some room = absurd (omega arith)
sole_next identifier zero (x ∷ b) some room = absurd (omega arith)
sole_next identifier (suc n) (x ∷ b) some room = (n, refl, refl)

pub sole_goes_on : (identifier rest bytes : List ℕ) (e : Read) → Going (sole_at identifier) rest bytes → 0 < length rest
    → length e.2 < length rest → extension_with_at rest ≡ Ok e → bytes_eq e.0 identifier ≡ false → Going (sole_at identifier) e.2 bytes
sole_goes_on identifier rest bytes e g some shorter read other =
    let step = sole_next identifier g.room rest some g.enough in
    let one : sole_at identifier g.room rest ≡ sole_at identifier step.0 e.2 =
    step.2 ∙ ap (λ (x : Result Read CutFault). x >>= sole_step identifier step.0 rest) read
    ∙ ap (λ (b : Bool). cond b (others_at identifier (length e.2) e.2 >>= λ none. Ok (rest, e.1, e.2)) (sole_at identifier step.0 e.2)) other in
    record { room = step.0; enough = omega (arith, step.1, g.enough, shorter); total = sym one ∙ g.total }

-- the result for all the bytes, if this extension is the one
pub sole_here : (identifier rest bytes : List ℕ) (e : Read) → Going (sole_at identifier) rest bytes → 0 < length rest
    → extension_with_at rest ≡ Ok e → bytes_eq e.0 identifier ≡ true
    → sole_at identifier (length bytes) bytes ≡ (others_at identifier (length e.2) e.2 >>= λ none. Ok (rest, e.1, e.2))
sole_here identifier rest bytes e g some read same =
    let step = sole_next identifier g.room rest some g.enough in
    sym g.total ∙ step.2 ∙ ap (λ (x : Result Read CutFault). x >>= sole_step identifier step.0 rest) read
    ∙ ap (λ (b : Bool). cond b (others_at identifier (length e.2) e.2 >>= λ none. Ok (rest, e.1, e.2)) (sole_at identifier step.0 e.2)) same

pub sole_fails : (identifier rest bytes : List ℕ) (u : CutFault) → Going (sole_at identifier) rest bytes → 0 < length rest
    → extension_with_at rest ≡ Err u → sole_at identifier (length bytes) bytes ≡ Err u
sole_fails identifier rest bytes u g some read =
    let step = sole_next identifier g.room rest some g.enough in
    sym g.total ∙ step.2 ∙ ap (λ (x : Result Read CutFault). x >>= sole_step identifier step.0 rest) read

no_sole : (identifier : List ℕ) (n : ℕ) (rest : List ℕ) → length rest ≡ 0 → sole_at identifier n rest ≡ Err NoExtension
unfolding sole_at
no_sole identifier zero rest none = refl
no_sole identifier (suc n) [] none = refl
no_sole identifier (suc n) (x ∷ b) none = absurd (omega (arith, none))

pub sole_missing : (identifier rest bytes : List ℕ) → Going (sole_at identifier) rest bytes → length rest ≡ 0
    → sole_at identifier (length bytes) bytes ≡ Err NoExtension
sole_missing identifier rest bytes g none = sym g.total ∙ no_sole identifier g.room rest none
