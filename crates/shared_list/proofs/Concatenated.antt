-- Lists one after the other.
use Rattle.std.proofs.Common.{◌≡◌, List, [], ◌∷◌, ◌++◌, ap, sym, ◌∙◌, append_assoc}
use Rattle.std.proofs.lemmas.List.{append-nil}
use Rattle.shared_list.specs.Flat.{concatenated}

pub concatenated-push : {X : Type 0} (cs : List (List X)) (c : List X) → concatenated (cs ++ c ∷ []) ≡ concatenated cs ++ c
concatenated-push [] c = append-nil c
concatenated-push (d ∷ cs) c = ap (λ (r : List _). d ++ r) (concatenated-push cs c) ∙ sym (append_assoc d (concatenated cs) c)

-- the rest becomes a chunk
pub same-moved : {X : Type 0} (cs : List (List X)) (rest : List X) → concatenated (cs ++ rest ∷ []) ++ [] ≡ concatenated cs ++ rest
same-moved cs rest = append-nil (concatenated (cs ++ rest ∷ [])) ∙ concatenated-push cs rest
