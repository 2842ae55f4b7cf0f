use Rattle.std.proofs.Common.{◌≡◌, ◌∙◌, ◌+◌, ◌/◌, ℕ, List, [], ◌∷◌, ◌++◌, length, map, take, arith, sym, refl, ap, Vec, Global}
use Rattle.std.proofs.lemmas.List.{map_push, take_all}
use Rattle.ct_data_tiles.proofs.Rows.{at_first, more_open, more_full, moved, below, texts-more, text_in}
use Rattle.ct_data_tiles.proofs.row.add_entries.Goals as goal
use Rattle.ct_data_tiles.proofs.row.add_entries.Goals.{then-count-eq256+in_ok-push, else-count-eq256}

pub loop-text-init : goal.loop-text-init
loop-text-init c = record {
  few = omega arith;
  tiles = λ L p. at_first L c.args.size c.in_ok-open.open.items (map text_in c.new-full.result.items) (p.0, c.in_ok-open.ensures.items ∙ p.1)
      (ap (map text_in) c.new-full.ensures.items);
}

pub loop-text-preserved : goal.loop-text-preserved
loop-text-preserved c =
    let l = c.loop-text in
    let x = c.text-item.result.items in
    let longer : c.extend_from_slice.new.self.items ≡ l.open.items ++ x =
    c.in_ok-extend_from_slice.ensures.items ∙ ap (λ (s : List ℕ). l.open.items ++ s) c.deref.ensures.value in
    elim c.if-count-eq256.branch [
      | then-count-eq256+in_ok-push w ↦ record {
        few = omega (arith, w.count-is);
        tiles = λ L p.
            let M = L ++ map text_in (take l.text-index c.args.texts.now) in
            moved (length L / 256) (M ++ x ∷ []) _ (map text_in l.full.items ++ (l.open.items ++ x) ∷ []) _ [] _ 0 _
            (texts-more L l.text-index c.args.texts.now c.text-item.result c.loop-text-test.true c.text-item.is)
            (ap (λ (v : Vec (Vec ℕ Global) Global). map text_in v.items) w.full-is ∙ ap (map text_in) w.in_ok-push.ensures.items
            ∙ map_push text_in l.full.items c.extend_from_slice.new.self ∙ ap (λ (s : List ℕ). map text_in l.full.items ++ s ∷ []) longer)
            (ap (λ (v : Vec ℕ Global). v.items) w.open-is ∙ w.new-open.ensures.items)
            w.count-is
            (more_full (length L / 256) M (map text_in l.full.items) l.open.items x l.count w.if-count-eq256.true (l.invariant.tiles L p));
      }
      | else-count-eq256 w ↦ record {
        few = omega (arith, w.count-is, below l.count w.if-count-eq256.false l.invariant.few);
        tiles = λ L p.
            let M = L ++ map text_in (take l.text-index c.args.texts.now) in
            moved (length L / 256) (M ++ x ∷ []) _ (map text_in l.full.items) _ (l.open.items ++ x) _ (l.count + 1) _
            (texts-more L l.text-index c.args.texts.now c.text-item.result c.loop-text-test.true c.text-item.is)
            (ap (λ (v : Vec (Vec ℕ Global) Global). map text_in v.items) w.full-is)
            (ap (λ (v : Vec ℕ Global). v.items) w.open-is ∙ longer)
            w.count-is
            (more_open (length L / 256) M (map text_in l.full.items) l.open.items x l.count w.if-count-eq256.false (l.invariant.tiles L p));
      }
    ]

pub returns : goal.returns
returns c = λ L p.
    let l = c.loop-text in
    let all : L ++ map text_in c.args.texts.now ≡ L ++ map text_in (take l.text-index c.args.texts.now) =
    ap (λ (E : List (Vec ℕ Global)). L ++ map text_in E) (sym (take_all l.text-index c.args.texts.now c.loop-text-test.false)) in
    let t = moved (length L / 256) (L ++ map text_in (take l.text-index c.args.texts.now)) (L ++ map text_in c.args.texts.now)
    (map text_in l.full.items) (map text_in l.full.items) l.open.items l.open.items l.count l.count all refl refl refl (l.invariant.tiles L p) in
    record {
      first = ap (λ (n : ℕ). n / 256) p.0;
      full = t.full_ones;
      partial = t.last;
    }
