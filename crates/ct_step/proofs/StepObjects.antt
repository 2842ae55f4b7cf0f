-- Objects with the names of tiles, and their properties.
use Rattle.std.proofs.Common.{◌≡◌, ◌∙◌, ◌+◌, ◌<◌, ◌≤◌, ℕ, List, [], ◌∷◌, ◌++◌, length, map, take, get_or, All, arith, sym, ap, subst, inl, inr, Ok, Result}
use Rattle.std.proofs.lemmas.List.{get_or_default, get_or-map, length-map, map_push, take_all, take_more}
use Rattle.std.proofs.lemmas.List.Elements.{All-nil, All-cons, All-head, All-tail, All-push, All-get_or}
use Rattle.std.specs.Global.{Global}
use Rattle.std.specs.Prelude.{Vec}
use Rattle.sha2.specs.Sha256.{sha256}
use Rattle.ct_step.specs.Bundle.{IsBundleOf}
use Rattle.ct_step.specs.Resumed.{object_parts, StopsResume}
use Rattle.ct_step.specs.declared.bundle.Object.{Object}
use Rattle.ct_step.specs.declared.rolling_out.ResumeFault.{ResumeFault}
use Rattle.ct_step.specs.declared.rolling_out.ResumeFault.TheVariants.{Bundle}
use Rattle.ct_step.proofs.Bundles.{bundles_are_resumed, same_objects}
use Rattle.ct_step.specs.declared.line.StateLine.{StateLine}
use Rattle.ct_step.specs.StepAnswers.{AreObjectsIn, IsNotRolledOut}
use Rattle.ct_step.specs.StepWords.{IsTileName}

abbrev pub name_in : Object → List ℕ
name_in o = (object_parts o).0

mapped-more : {X Y : Type 0} (f : X → Y) (P : Y → Type 0) (E : List X) (i : ℕ) (t : X) → i < length E → t ≡ get_or E i t
    → All P (map f (take i E)) → P (f t) → All P (map f (take (i + 1) E))
mapped-more f P E i t h is all p =
    subst (All P) (sym (ap (map f) (take_more E i t h ∙ ap (λ x. take i E ++ x ∷ []) (sym is)) ∙ map_push f (take i E) t))
    (All-push P (map f (take i E)) (f t) all p)

mapped-at : {X Y : Type 0} (f : X → Y) (P : Y → Type 0) (E : List X) (i : ℕ) (t : X) → All P (map f E) → i < length E → t ≡ get_or E i t → P (f t)
mapped-at f P E i t all h is =
    subst P (get_or-map f E i t (f t) h ∙ ap f (sym is)) (All-get_or P (map f E) i (f t) (omega (arith, h, length-map E f)) all)

pub all_named : (E : List Object) (n : ℕ) → length E ≤ n → All IsTileName (map name_in (take n E)) → All IsTileName (map name_in E)
all_named E n h all = subst (λ x. All IsTileName (map name_in x)) (take_all n E h) all

pub one_more_named : (E : List Object) (i : ℕ) (d : Object) → i < length E → All IsTileName (map name_in (take i E)) → IsTileName (name_in (get_or E i d))
    → All IsTileName (map name_in (take (i + 1) E))
one_more_named E i d h all p = mapped-more name_in IsTileName E i (get_or E i d) h (get_or_default E i d (get_or E i d) h) all p

pub one_of_named : (E : List Object) (i : ℕ) (d : Object) → i < length E → All IsTileName (map name_in E) → IsTileName (name_in (get_or E i d))
one_of_named E i d h all = mapped-at name_in IsTileName E i (get_or E i d) all h (get_or_default E i d (get_or E i d) h)

abbrev HasName : List ℕ × List ℕ → Type 0
HasName o = IsTileName o.0

pub named_parts : (E : List Object) → All IsTileName (map name_in E) → All HasName (map object_parts E)
named_parts [] all = All-nil HasName
named_parts (o ∷ E) all =
    All-cons HasName (object_parts o) (map object_parts E) (All-head IsTileName (name_in o) (map name_in E) all)
    (named_parts E (All-tail IsTileName (name_in o) (map name_in E) all))

pub parts_named : (E : List Object) → All HasName (map object_parts E) → All IsTileName (map name_in E)
parts_named [] all = All-nil IsTileName
parts_named (o ∷ E) all =
    All-cons IsTileName (name_in o) (map name_in E) (All-head HasName (object_parts o) (map object_parts E) all)
    (parts_named E (All-tail HasName (object_parts o) (map object_parts E) all))

-- if the objects of a staged batch do not all have the names of tiles, it has no other objects
pub none_named : (line : StateLine) (bundle : List ℕ) (found : Vec Object Global) → sha256 bundle ≡ line.bundle
    → IsBundleOf (map object_parts found.items) bundle
    → (All IsTileName (map name_in found.items) → ⊥) → IsNotRolledOut line bundle
none_named line bundle found digest is none = inr (λ objects b.
    let r : Result (Vec Object Global) ResumeFault = Ok found in
    let same : map object_parts found.items ≡ objects = bundles_are_resumed sha256 line objects bundle r b.0 (sym digest) (digest, is) in
    none (parts_named found.items (subst (λ (l : List (List ℕ × List ℕ)). All HasName l) (sym same) b.1)))

-- bytes that are not read
pub not_rolled_out : (line : StateLine) (bundle : List ℕ) (fault : ResumeFault) → fault ≡ Bundle → StopsResume sha256 line bundle fault
    → IsNotRolledOut line bundle
not_rolled_out line bundle fault is stops = either (subst (λ (f : ResumeFault). StopsResume sha256 line bundle f) is stops)
  where
    either : StopsResume sha256 line bundle Bundle → IsNotRolledOut line bundle
    either (inl other) = inl other
    either (inr none) = inr (λ objects b. none objects b.0)

-- if the objects of a staged batch do not all have the names of tiles, no objects are found
pub none_named_in : (bundle : List ℕ) (read : Vec Object Global) (found : List Object) → found ≡ []
    → IsBundleOf (map object_parts read.items) bundle → (All IsTileName (map name_in read.items) → ⊥) → AreObjectsIn bundle (map object_parts found)
none_named_in bundle read found nil is none =
    inr (
      ap (map object_parts) nil,
      λ others b.
          let same : map object_parts read.items ≡ others = same_objects (map object_parts read.items) others bundle is b.0 in
          none (parts_named read.items (subst (λ (l : List (List ℕ × List ℕ)). All HasName l) (sym same) b.1)),
    )
