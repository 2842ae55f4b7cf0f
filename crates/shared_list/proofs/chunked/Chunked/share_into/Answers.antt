use Rattle.std.proofs.Common.{◌≡◌, ◌<◌, ◌+◌, ◌++◌, List, [], ◌∷◌, take, length, ap, sym, ◌∙◌, arith, append_assoc}
use Rattle.std.proofs.lemmas.List.{take_more}
use Rattle.std.proofs.lemmas.Grind.{common_steps}
use Rattle.shared_list.specs.Flat.{concatenated}
use Rattle.shared_list.proofs.Concatenated.{concatenated-push}
use Rattle.shared_list.proofs.chunked.Chunked.share_into.Goals as goal

pub loop-chunk-preserved : goal.loop-chunk-preserved
loop-chunk-preserved g c =
    let xs = c.self.inside.full in
    let i = c.loop-chunk.chunk-index in
    let one = c.values.result.now in
    let start = c.args.into.now.items in
    let added : c.share_all.new.into.items ≡ c.loop-chunk.into.items ++ one = grind (arith, common_steps) in
    let below : i < length xs = grind (arith, common_steps) in
    let more : take (i + 1) xs ≡ take i xs ++ one ∷ [] = take_more xs i one below ∙ ap (λ (d : List _). take i xs ++ d ∷ []) (grind (arith, common_steps)) in
    added ∙ ap (λ (l : List _). l ++ one) c.loop-chunk.invariant
    ∙ append_assoc start (concatenated (take i xs)) one
    ∙ ap (λ (l : List _). start ++ l) (sym (concatenated-push (take i xs) one) ∙ ap concatenated (sym more))
