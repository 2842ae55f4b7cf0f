-- Contents are read as they were written.
use Rattle.std.proofs.Common.{◌≡◌, ◌∙◌, ◌<◌, ◌≤◌, ◌^◌, ℕ, List, [], ◌∷◌, ◌++◌, length, sym, refl, ap, subst, arith, length-append, append_assoc}
use Rattle.std.proofs.lemmas.List.Elements.{All-head, All-tail, All-push}
use Rattle.std.specs.List.{flat_map}
use Rattle.std.specs.Prelude.{All}
use Rattle.ct_codec.specs.Bytes.{num, vec}
use Rattle.ct_codec.proofs.Apart.{num_split, vec_split}
use Rattle.ct_codec.proofs.Refusals.{length-num}
use Rattle.ct_step.specs.StepBytes.{FitsIn8, AreContents}
use Rattle.ct_step.proofs.Pushed.{flat-push}

abbrev texts : List (List ℕ) → List ℕ
texts contents = flat_map (vec 8) contents

-- the bytes do not begin with a vector if they end within its length
pub no_length : (w : ℕ) (b x r : List ℕ) → length b < w → b ≡ vec w x ++ r → ⊥
no_length w b x r h e =
    absurd (omega (arith, h, ap length e, length-append (num w (length x) ++ x) r, length-append (num w (length x)) x, length-num w (length x)))

-- the bytes do not begin with a vector if its length is complete and they end within its content
pub no_content : (w n : ℕ) (b s x r : List ℕ) → n < 256 ^ w → length x < 256 ^ w → length s < n → b ≡ num w n ++ s → b ≡ vec w x ++ r → ⊥
no_content w n b s x r h k short e f =
    let parts = num_split w n (length x) s (x ++ r) h k (sym e ∙ f ∙ append_assoc (num w (length x)) x r) in
    absurd (omega (arith, short, parts.0, ap length parts.1, length-append x r))

-- a content has at least 8 bytes
content_some : (c r : List ℕ) → 8 ≤ length (vec 8 c ++ r)
content_some c r = omega (arith, length-append (vec 8 c) r, length-append (num 8 (length c)) c, length-num 8 (length c))

-- contents that were read, and the rest of the bytes: the bytes of all contents begin with them
begun : (done all : List (List ℕ)) (rest : List ℕ) → All FitsIn8 done → All FitsIn8 all → texts done ++ rest ≡ texts all
    → (more : List (List ℕ)) × (all ≡ done ++ more) × (rest ≡ texts more)
begun [] all rest h k e = (all, refl, e)
begun (c ∷ done) [] rest h k e =
    absurd (omega (arith, ap length e, ap length (append_assoc (vec 8 c) (texts done) rest), content_some c (texts done ++ rest)))
begun (c ∷ done) (d ∷ all) rest h k e =
    let whole : vec 8 c ++ (texts done ++ rest) ≡ vec 8 d ++ texts all = sym (append_assoc (vec 8 c) (texts done) rest) ∙ e in
    let one = vec_split 8 c d (texts done ++ rest) (texts all) (All-head FitsIn8 c done h) (All-head FitsIn8 d all k) whole in
    let behind = begun done all rest (All-tail FitsIn8 c done h) (All-tail FitsIn8 d all k) one.1 in
    (behind.0, ap (λ (x : List (List ℕ)). d ∷ x) behind.1 ∙ ap (λ (x : List ℕ). x ∷ (done ++ behind.0)) (sym one.0), behind.2)

-- the contents that were read from bytes, and the rest of the bytes
pub record ReadSoFar (done : List (List ℕ)) (bytes rest : List ℕ) : Type 0 where
  pub fit : All FitsIn8 done
  pub text : bytes ≡ texts done ++ rest

pub read-more : (done all : List (List ℕ)) (c bytes rest more : List ℕ) → ReadSoFar done bytes rest → FitsIn8 c
    → rest ≡ vec 8 c ++ more → all ≡ done ++ c ∷ [] → ReadSoFar all bytes more
read-more done all c bytes rest more r h e a =
    subst (λ (d : List (List ℕ)). ReadSoFar d bytes more) (sym a) (record {
      fit = All-push FitsIn8 done c r.fit h;
      text = r.text ∙ ap (λ (x : List ℕ). texts done ++ x) e ∙ sym (append_assoc (texts done) (vec 8 c) more)
          ∙ ap (λ (x : List ℕ). x ++ more) (sym (flat-push (vec 8) done c));
    })

-- if the rest of the bytes does not begin with a content, the bytes are not contents
pub read-stuck : (done : List (List ℕ)) (bytes rest : List ℕ) → ReadSoFar done bytes rest → (length rest ≡ 0 → ⊥)
    → ((x r : List ℕ) → length x < 2 ^ 64 → rest ≡ vec 8 x ++ r → ⊥) → (contents : List (List ℕ)) → AreContents contents bytes → ⊥
read-stuck done bytes rest r some none contents b =
    let more = begun done contents rest r.fit b.fit (sym r.text ∙ b.text) in
    stuck more.0 more.2 (fit_behind done more.0 (subst (All FitsIn8) more.1 b.fit))
  where
    fit_behind : (done more : List (List ℕ)) → All FitsIn8 (done ++ more) → All FitsIn8 more
    fit_behind [] more h = h
    fit_behind (o ∷ done) more h = fit_behind done more (All-tail FitsIn8 o (done ++ more) h)

    stuck : (more : List (List ℕ)) → rest ≡ texts more → All FitsIn8 more → ⊥
    stuck [] e h = some (ap length e)
    stuck (o ∷ more) e h = none o (texts more) (All-head FitsIn8 o more h) e

pub read-less : (c rest more : List ℕ) → rest ≡ vec 8 c ++ more → length more < length rest
read-less c rest more e = omega (arith, ap length e, length-append (vec 8 c) more, length-append (num 8 (length c)) c, length-num 8 (length c))
