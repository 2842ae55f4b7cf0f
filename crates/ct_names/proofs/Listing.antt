-- A list of watched names is read as it was written.
use Rattle.std.proofs.Common.{◌≡◌, ◌∙◌, ◌<◌, ◌≤◌, ◌^◌, ℕ, List, [], ◌∷◌, ◌++◌, length, sym, refl, ap, subst, arith, length-append, append-nil, append_assoc}
use Rattle.std.proofs.lemmas.List.Elements.{All-head, All-tail, All-push}
use Rattle.std.specs.List.{flat_map}
use Rattle.std.specs.Prelude.{All}
use Rattle.ct_codec.specs.Bytes.{num, vec}
use Rattle.ct_codec.proofs.Apart.{num_split, vec_split}
use Rattle.ct_codec.proofs.Refusals.{length-num}
use Rattle.ct_names.specs.FoundBytes.{IsShortName, AreWatched}

flat-push : {X : Type 0} (f : X → List ℕ) (xs : List X) (x : X) → flat_map f (xs ++ x ∷ []) ≡ flat_map f xs ++ f x
flat-push f [] x = append-nil (f x)
flat-push f (y ∷ xs) x = ap (λ (l : List ℕ). f y ++ l) (flat-push f xs x) ∙ sym (append_assoc (f y) (flat_map f xs) (f x))

abbrev texts : List (List ℕ) → List ℕ
texts names = flat_map (vec 8) names

-- no vector begins if its length is not whole
pub no_length : (w : ℕ) (b x r : List ℕ) → length b < w → b ≡ vec w x ++ r → ⊥
no_length w b x r h e =
    absurd (omega (arith, h, ap length e, length-append (num w (length x) ++ x) r, length-append (num w (length x)) x, length-num w (length x)))

-- no vector begins if its length is whole and its bytes are not
pub no_name : (w n : ℕ) (b s x r : List ℕ) → n < 256 ^ w → length x < 256 ^ w → length s < n → b ≡ num w n ++ s → b ≡ vec w x ++ r → ⊥
no_name w n b s x r h k short e f =
    let parts = num_split w n (length x) s (x ++ r) h k (sym e ∙ f ∙ append_assoc (num w (length x)) x r) in
    absurd (omega (arith, short, parts.0, ap length parts.1, length-append x r))

-- a name has some bytes
name_some : (c r : List ℕ) → 8 ≤ length (vec 8 c ++ r)
name_some c r = omega (arith, length-append (vec 8 c) r, length-append (num 8 (length c)) c, length-num 8 (length c))

-- the names that were read are the first ones of all, and the rest of the bytes is the rest of the names
begun : (done all : List (List ℕ)) (rest : List ℕ) → All IsShortName done → All IsShortName all → texts done ++ rest ≡ texts all
    → (more : List (List ℕ)) × (all ≡ done ++ more) × (rest ≡ texts more)
begun [] all rest h k e = (all, refl, e)
begun (c ∷ done) [] rest h k e =
    absurd (omega (arith, ap length e, ap length (append_assoc (vec 8 c) (texts done) rest), name_some c (texts done ++ rest)))
begun (c ∷ done) (d ∷ all) rest h k e =
    let whole : vec 8 c ++ (texts done ++ rest) ≡ vec 8 d ++ texts all = sym (append_assoc (vec 8 c) (texts done) rest) ∙ e in
    let one = vec_split 8 c d (texts done ++ rest) (texts all) (All-head IsShortName c done h) (All-head IsShortName d all k) whole in
    let behind = begun done all rest (All-tail IsShortName c done h) (All-tail IsShortName d all k) one.1 in
    (behind.0, ap (λ (x : List (List ℕ)). d ∷ x) behind.1 ∙ ap (λ (x : List ℕ). x ∷ (done ++ behind.0)) (sym one.0), behind.2)

-- the names that were read, and the remaining bytes
pub record ReadSoFar (done : List (List ℕ)) (bytes rest : List ℕ) : Type 0 where
  pub fit : All IsShortName done
  pub text : bytes ≡ texts done ++ rest

pub read-more : (done all : List (List ℕ)) (c bytes rest more : List ℕ) → ReadSoFar done bytes rest → IsShortName c
    → rest ≡ vec 8 c ++ more → all ≡ done ++ c ∷ [] → ReadSoFar all bytes more
read-more done all c bytes rest more r h e a =
    subst (λ (d : List (List ℕ)). ReadSoFar d bytes more) (sym a) (record {
      fit = All-push IsShortName done c r.fit h;
      text = r.text ∙ ap (λ (x : List ℕ). texts done ++ x) e ∙ sym (append_assoc (texts done) (vec 8 c) more)
          ∙ ap (λ (x : List ℕ). x ++ more) (sym (flat-push (vec 8) done c));
    })

-- if no name comes next, the bytes are not a list
pub read-stuck : (done : List (List ℕ)) (bytes rest : List ℕ) → ReadSoFar done bytes rest → (length rest ≡ 0 → ⊥)
    → ((x r : List ℕ) → length x < 2 ^ 64 → rest ≡ vec 8 x ++ r → ⊥) → (names : List (List ℕ)) → AreWatched names bytes → ⊥
read-stuck done bytes rest r some none names b =
    let more = begun done names rest r.fit b.fit (sym r.text ∙ b.text) in
    stuck more.0 more.2 (fit_behind done more.0 (subst (All IsShortName) more.1 b.fit))
  where
    fit_behind : (done more : List (List ℕ)) → All IsShortName (done ++ more) → All IsShortName more
    fit_behind [] more h = h
    fit_behind (o ∷ done) more h = fit_behind done more (All-tail IsShortName o (done ++ more) h)

    stuck : (more : List (List ℕ)) → rest ≡ texts more → All IsShortName more → ⊥
    stuck [] e h = some (ap length e)
    stuck (o ∷ more) e h = none o (texts more) (All-head IsShortName o more h) e

pub read-less : (c rest more : List ℕ) → rest ≡ vec 8 c ++ more → length more < length rest
read-less c rest more e = omega (arith, ap length e, length-append (vec 8 c) more, length-append (num 8 (length c)) c, length-num 8 (length c))
