-- Lists in parts of one size, when values are added to them.
use Rattle.std.proofs.Common.{◌≡◌, ℕ, ◌+◌, ◌<◌, ◌≤◌, List, [], ◌∷◌, ◌++◌, length, ap, sym, ◌∙◌, subst, arith, append_assoc}
use Rattle.std.proofs.lemmas.List.{length_push}
use Rattle.shared_list.specs.Flat.{concatenated, AllOf, IsInParts}

-- the parts and the rest changed (for example, the rest became a part), but their values did not
pub moved : {X : Type 0} (size n : ℕ) (parts now : List (List X)) (rest later : List X) → IsInParts size parts rest n
    → concatenated now ++ later ≡ concatenated parts ++ rest → AllOf size now → length later ≤ size → IsInParts size now later n
moved size n parts now rest later is same each short = record { each = each; short = short; all = ap length same ∙ is.all }

-- the rest stays
pub stayed : {X : Type 0} (size n : ℕ) (parts : List (List X)) (rest later : List X) → IsInParts size parts rest n → later ≡ rest
    → IsInParts size parts later n
stayed size n parts rest later is e = subst (λ (r : List _). IsInParts size parts r n) (sym e) is

-- one more value is added to the rest
pub grown : {X : Type 0} (parts : List (List X)) (rest later : List X) (x : X) → later ≡ rest ++ x ∷ []
    → concatenated parts ++ later ≡ (concatenated parts ++ rest) ++ x ∷ []
grown parts rest later x e = ap (λ (r : List _). concatenated parts ++ r) e ∙ sym (append_assoc (concatenated parts) rest (x ∷ []))

pub pushed : {X : Type 0} (size n m : ℕ) (parts : List (List X)) (rest later : List X) (x : X) → IsInParts size parts rest n → length rest < size
    → later ≡ rest ++ x ∷ [] → m ≡ n + 1 → IsInParts size parts later m
pushed size n m parts rest later x is room e count =
    let longer : length later ≡ length rest + 1 = ap length e ∙ length_push rest x in
    record {
      each = is.each;
      short = omega arith;
      all = ap length (grown parts rest later x e) ∙ length_push (concatenated parts ++ rest) x ∙ ap (λ (k : ℕ). k + 1) is.all ∙ sym count;
    }
