-- Serving a piece of the input, line by line.
use Rattle.std.proofs.Common.{◌≡◌, ◌≢◌, ◌<◌, ◌≤◌, ◌+◌, ◌-◌, ℕ, List, [], ◌∷◌, ◌++◌, All, length, take, drop, Option, Bool, true, false, cond, nat_eq, refl, sym, ap, subst, ◌∙◌}
use Rattle.std.proofs.Common.{arith, append_assoc, append-nil, length-append, take-append-drop}
use Rattle.std.proofs.lemmas.List.{take_at, take_more, length-take-le, drop_at}
use Rattle.std.proofs.lemmas.List.Elements.{All-append, All-head, All-tail}
use Rattle.std.proofs.lemmas.Grind.{common_steps}
use Rattle.std.specs.Io.KnownBytes.{Appends, Consumes}
use Rattle.std.proofs.KnownBytes.{Appends-nil, Appends-trans, Consumes-trans}
use Rattle.std.specs.List.{concat}
use Rattle.std.proofs.lemmas.List.Folds.{concat-append}
use Rattle.ct_lines.specs.declared.fault.ServeFault.{ServeFault}
use Rattle.ct_lines.specs.declared.fault.ServeFault.TheVariants.{Read, Write, Memory, Endless}
use Rattle.ct_lines.specs.Frozen.{replies}
use Rattle.ct_lines.specs.Serving.{count_in, reply_if, ended, IsShort, IsCutOff, RepliedToEnded, IsEndedBy}
use Rattle.json_lines.proofs.KeptLines.{all_of_none, ends_here, ends_on, kept_fits, kept_on}
use Rattle.json_lines.specs.Lines.{last_line, lines_behind, lines_of, IsPiece}
use Rattle.ct_lines.specs.Progress.{StandsFor, EndsAs, ServesPiece, StopsBefore, IsStopped, Goes, StopsWithin}

-- the replies from a line on, with its own first
pub line_first : (reply : List ℕ → List ℕ) (m : List ℕ) (ls : List (List ℕ)) → replies reply (m ∷ ls) ≡ reply_if reply m ++ replies reply ls
line_first reply [] ls = refl
line_first reply (b ∷ bs) ls = refl

-- the reply to the last line, if it has one
last_replied : (reply : List ℕ → List ℕ) (m : List ℕ) → replies reply (last_line m) ≡ reply_if reply m
last_replied reply [] = refl
last_replied reply (b ∷ bs) = refl

pub served_none : (reply : List ℕ → List ℕ) (line : List ℕ) → ServesPiece reply line [] [] line
served_none reply line = record { goes_on = λ more. refl; ends_on = λ more. refl }

pub served_byte : (reply : List ℕ → List ℕ) (line p m : List ℕ) (rs : List (List ℕ)) (b : ℕ) → nat_eq b 10 ≡ false → ServesPiece reply line p rs m
    → ServesPiece reply line (p ++ b ∷ []) rs (m ++ b ∷ [])
served_byte reply line p m rs b other s = record {
  goes_on = λ more.
      ap (λ l. replies reply (lines_behind line l)) (append_assoc p (b ∷ []) more) ∙ s.goes_on (b ∷ more)
      ∙ ap (λ (t : Bool). rs ++ replies reply (cond t (m ∷ lines_of more) (lines_behind (m ++ b ∷ []) more))) other;
  ends_on = λ more.
      ap (λ l. replies reply (ended line l)) (append_assoc p (b ∷ []) more) ∙ s.ends_on (b ∷ more)
      ∙ ap (λ (t : Bool). rs ++ replies reply (cond t (m ∷ ended [] more) (ended (m ++ b ∷ []) more))) other;
}

pub not_ten : (b : ℕ) → b ≢ 10 → nat_eq b 10 ≡ false
not_ten b h = grind (arith, common_steps)

-- bytes none of which ends a line
pub served_bytes : (reply : List ℕ → List ℕ) (line p m bs : List ℕ) (rs : List (List ℕ)) → All (λ x. x ≢ 10) bs → ServesPiece reply line p rs m
    → ServesPiece reply line (p ++ bs) rs (m ++ bs)
served_bytes reply line p m [] rs other s =
    subst (λ l. ServesPiece reply line (p ++ []) rs l) (sym (append-nil m)) (subst (λ l. ServesPiece reply line l rs m) (sym (append-nil p)) s)
served_bytes reply line p m (b ∷ bs) rs other s =
    let one = served_byte reply line p m rs b (not_ten b (All-head (λ x. x ≢ 10) b bs other)) s in
    let more = served_bytes reply line (p ++ b ∷ []) (m ++ b ∷ []) bs rs (All-tail (λ x. x ≢ 10) b bs other) one in
    subst (λ l. ServesPiece reply line (p ++ b ∷ bs) rs l) (append_assoc m (b ∷ []) bs)
    (subst (λ l. ServesPiece reply line l rs ((m ++ b ∷ []) ++ bs)) (append_assoc p (b ∷ []) bs) more)

pub served_end : (reply : List ℕ → List ℕ) (line p m : List ℕ) (rs : List (List ℕ)) → ServesPiece reply line p rs m
    → ServesPiece reply line (p ++ 10 ∷ []) (rs ++ reply_if reply m) []
served_end reply line p m rs s = record {
  goes_on = λ more.
      ap (λ l. replies reply (lines_behind line l)) (append_assoc p (10 ∷ []) more) ∙ s.goes_on (10 ∷ more)
      ∙ ap (λ l. rs ++ l) (line_first reply m (lines_of more))
      ∙ sym (append_assoc rs (reply_if reply m) (replies reply (lines_of more)));
  ends_on = λ more.
      ap (λ l. replies reply (ended line l)) (append_assoc p (10 ∷ []) more) ∙ s.ends_on (10 ∷ more)
      ∙ ap (λ l. rs ++ l) (line_first reply m (ended [] more))
      ∙ sym (append_assoc rs (reply_if reply m) (replies reply (ended [] more)));
}

short_more : (next : List ℕ) (xs ys : List (List ℕ)) → IsShort next xs → IsShort next (xs ++ ys)
short_more [] xs ys h = tt
short_more (b ∷ bs) [] ys h = absurd h
short_more (b ∷ bs) (x ∷ xs) ys h = h

before_more : (f : ServeFault) (next : List ℕ) (xs ys : List (List ℕ)) → StopsBefore f next xs → StopsBefore f next (xs ++ ys)
before_more (Read k) next xs ys h = absurd h
before_more (Write k) next xs ys h = omega (arith, h, length-append xs ys)
before_more (Memory k) next xs ys h = h
before_more (Endless k) next xs ys h = absurd h

pub short_take : (n : ℕ) (r : List ℕ) → n < length r → IsShort (take n r) (r ∷ [])
short_take n r h = go (take n r) refl
  where
    go : (t : List ℕ) → take n r ≡ t → IsShort t (r ∷ [])
    go [] e = tt
    go (b ∷ bs) e =
        let size : length (b ∷ bs) ≡ n = sym (ap length e) ∙ length-take-le n r (omega arith) in
        (omega (arith, size), sym e ∙ ap (λ k. take k r) (sym size))

-- serving stops at the end of a line
pub stopped_end : (reply : List ℕ → List ℕ) (line p m rest next : List ℕ) (rs : List (List ℕ)) (f : ServeFault) → ServesPiece reply line p rs m
    → IsShort next (reply_if reply m) → StopsBefore f next (reply_if reply m) → IsStopped reply line (p ++ 10 ∷ rest) rs next f
stopped_end reply line p m rest next rs f s h b = record {
  later = reply_if reply m ++ replies reply (lines_of rest);
  order = s.goes_on (10 ∷ rest) ∙ ap (λ l. rs ++ l) (line_first reply m (lines_of rest));
  short = short_more next (reply_if reply m) (replies reply (lines_of rest)) h;
  why = before_more f next (reply_if reply m) (replies reply (lines_of rest)) b;
}

-- serving stops, and no reply is begun
pub stopped_between : (reply : List ℕ → List ℕ) (line p m rest : List ℕ) (rs : List (List ℕ)) (k : ℕ) → ServesPiece reply line p rs m
    → IsStopped reply line (p ++ rest) rs [] (Memory k)
stopped_between reply line p m rest rs k s = record { later = replies reply (lines_behind m rest); order = s.goes_on rest; short = tt; why = refl }

-- a reply of which only a proper prefix was written
pub stop_here : (reply : List ℕ → List ℕ) (line bytes : List ℕ) (a b : Option (List ℕ)) (k : ℕ) → bytes ∷ [] ≡ reply_if reply line → (n : ℕ)
    × (n < length bytes) × Appends a b (take n bytes)
    → (next : List ℕ) × IsShort next (reply_if reply line) × StopsBefore (Write k) next (reply_if reply line) × Appends a b next
stop_here reply line bytes a b k e w = (take w.0 bytes, subst (λ l. IsShort (take w.0 bytes) l) e (short_take w.0 bytes w.1), omega (arith, ap length e), w.2)

pub goes_none : (reply : List ℕ → List ℕ) (old : Option (List ℕ)) (kept : List ℕ) (count : ℕ) (line : List ℕ) → StandsFor kept line
    → Goes reply old old kept count count line []
goes_none reply old kept count line s = record {
  texts = [];
  line2 = line;
  stands = s;
  served = served_none reply line;
  written = Appends-nil old;
  counted = omega arith;
}

-- for a line of which no byte was read, nothing is kept
pub stands_empty : (kept : List ℕ) → kept ≡ [] → StandsFor kept []
stands_empty kept none = (none, all_of_none)

-- the kept part of the current line fits
pub has_stood : (reply : List ℕ → List ℕ) (old new : Option (List ℕ)) (kept : List ℕ) (count n : ℕ) (line p : List ℕ) → Goes reply old new kept count n line p
    → length kept ≤ 1048578
has_stood reply old new kept count n line p g = kept_fits 1048578 kept g.line2 g.stands.0

-- more bytes of a line, none of which ends it
pub goes_bytes : (reply : List ℕ → List ℕ) (old new : Option (List ℕ)) (kept after : List ℕ) (count n : ℕ) (line p bs : List ℕ)
    → Goes reply old new kept count n line p → All (λ x. x ≢ 10) bs → after ≡ take 1048578 (kept ++ bs) → Goes reply old new after count n line (p ++ bs)
goes_bytes reply old new kept after count n line p bs g other is = record {
  texts = g.texts;
  line2 = g.line2 ++ bs;
  stands = (kept_on 1048578 kept after g.line2 bs g.stands.0 is, All-append (λ x. x ≢ 10) g.line2 bs g.stands.1 other);
  served = served_bytes reply line p g.line2 bs g.texts other g.served;
  written = g.written;
  counted = g.counted;
}

-- the rest of a line, with its end
pub goes_end : (reply : List ℕ → List ℕ) (old mid new : Option (List ℕ)) (kept held : List ℕ) (count n m : ℕ) (line p bs : List ℕ)
    → Goes reply old mid kept count n line p → All (λ x. x ≢ 10) bs → held ≡ take 1048578 (kept ++ (bs ++ 10 ∷ []))
    → ((l : List ℕ) → EndsAs held l → Appends mid new (concat (reply_if reply l)) × (m ≡ n + length (reply_if reply l)))
    → Goes reply old new [] count m line (p ++ (bs ++ 10 ∷ []))
goes_end reply old mid new kept held count n m line p bs g other is write =
    let whole = g.line2 ++ bs in
    let w = write whole (ends_on 1048578 kept held g.line2 bs g.stands.0 is (All-append (λ x. x ≢ 10) g.line2 bs g.stands.1 other)) in
    let own = reply_if reply whole in
    let served = served_end reply line (p ++ bs) whole g.texts (served_bytes reply line p g.line2 bs g.texts other g.served) in
    record {
      texts = g.texts ++ own;
      line2 = [];
      stands = stands_empty [] refl;
      served = subst (λ l. ServesPiece reply line l (g.texts ++ own) []) (append_assoc p bs (10 ∷ [])) served;
      written = subst (λ l. Appends old new l) (sym (concat-append g.texts own)) (Appends-trans old mid new (concat g.texts) (concat own) g.written w.0);
      counted = omega (arith, w.1, g.counted, length-append g.texts own);
    }

pub stops_end : (reply : List ℕ → List ℕ) (old mid new : Option (List ℕ)) (kept held : List ℕ) (count n : ℕ) (f : ServeFault) (line p bs rest : List ℕ)
    → Goes reply old mid kept count n line p → All (λ x. x ≢ 10) bs → held ≡ take 1048578 (kept ++ (bs ++ 10 ∷ []))
    → ((l : List ℕ) → EndsAs held l → (next : List ℕ) × IsShort next (reply_if reply l) × StopsBefore f next (reply_if reply l)
    × Appends mid new next) → count_in f ≡ n → StopsWithin reply old new count f line (p ++ ((bs ++ 10 ∷ []) ++ rest))
stops_end reply old mid new kept held count n f line p bs rest g other is stop same =
    let whole = g.line2 ++ bs in
    let s = stop whole (ends_on 1048578 kept held g.line2 bs g.stands.0 is (All-append (λ x. x ≢ 10) g.line2 bs g.stands.1 other)) in
    let served = served_bytes reply line p g.line2 bs g.texts other g.served in
    let order : (p ++ bs) ++ 10 ∷ rest ≡ p ++ ((bs ++ 10 ∷ []) ++ rest) =
    append_assoc p bs (10 ∷ rest) ∙ ap (λ l. p ++ l) (sym (append_assoc bs (10 ∷ []) rest)) in
    record {
      texts = g.texts;
      next = s.0;
      stopped = subst (λ l. IsStopped reply line l g.texts s.0 f) order
          (stopped_end reply line (p ++ bs) whole rest s.0 g.texts f served s.1 s.2);
      written = Appends-trans old mid new (concat g.texts) s.0 g.written s.3;
      counted = same ∙ g.counted;
    }

pub stops_between : (reply : List ℕ → List ℕ) (old new : Option (List ℕ)) (kept : List ℕ) (count n : ℕ) (line p rest : List ℕ)
    → Goes reply old new kept count n line p → StopsWithin reply old new count (Memory n) line (p ++ rest)
stops_between reply old new kept count n line p rest g = record {
  texts = g.texts;
  next = [];
  stopped = stopped_between reply line p g.line2 rest g.texts n g.served;
  written = subst (λ l. Appends old new l) (sym (append-nil (concat g.texts))) g.written;
  counted = g.counted;
}

-- a piece that ends a line
line_end : (bs : List ℕ) (n : ℕ) → IsPiece bs n true → take n bs ≡ take (n - 1) bs ++ 10 ∷ []
line_end bs n p =
    let e = p.ends refl in
    let last : (n - 1) + 1 ≡ n = omega (arith, e.0) in
    let below : n - 1 < length bs = omega (arith, e.0, p.within) in
    ap (λ k. take k bs) (sym last) ∙ take_more bs (n - 1) 0 below ∙ ap (λ b. take (n - 1) bs ++ b ∷ []) e.1

-- the same for the rest of a piece, after the part that is done
pub goes_bytes_at : (reply : List ℕ → List ℕ) (old new : Option (List ℕ)) (kept after : List ℕ) (count n k : ℕ) (line done rest : List ℕ)
    → Goes reply old new kept count n line done → IsPiece rest k false → after ≡ take 1048578 (kept ++ take k rest)
    → Goes reply old new after count n line (done ++ take k rest)
goes_bytes_at reply old new kept after count n k line done rest g p is =
    goes_bytes reply old new kept after count n line done (take k rest) g (p.goes_on refl) is

pub goes_end_at : (reply : List ℕ → List ℕ) (old mid new : Option (List ℕ)) (kept held after : List ℕ) (count n m k : ℕ) (line done rest : List ℕ)
    → Goes reply old mid kept count n line done → IsPiece rest k true → held ≡ take 1048578 (kept ++ take k rest)
    → ((l : List ℕ) → EndsAs held l → Appends mid new (concat (reply_if reply l)) × (m ≡ n + length (reply_if reply l))) → after ≡ []
    → Goes reply old new after count m line (done ++ take k rest)
goes_end_at reply old mid new kept held after count n m k line done rest g p is write none =
    let cut = line_end rest k p in
    let own = is ∙ ap (λ l. take 1048578 (kept ++ l)) cut in
    let went = goes_end reply old mid new kept held count n m line done (take (k - 1) rest) g p.before own write in
    subst (λ l. Goes reply old new l count m line (done ++ take k rest)) (sym none)
    (subst (λ l. Goes reply old new [] count m line (done ++ l)) (sym cut) went)

pub stops_end_at : (reply : List ℕ → List ℕ) (old mid new : Option (List ℕ)) (kept held : List ℕ) (count n k : ℕ) (f : ServeFault)
    (line xs done rest : List ℕ) → xs ≡ done ++ rest → Goes reply old mid kept count n line done → IsPiece rest k true
    → held ≡ take 1048578 (kept ++ take k rest)
    → ((l : List ℕ) → EndsAs held l → (next : List ℕ) × IsShort next (reply_if reply l) × StopsBefore f next (reply_if reply l)
    × Appends mid new next) → count_in f ≡ n → StopsWithin reply old new count f line xs
stops_end_at reply old mid new kept held count n k f line xs done rest order g p is stop same =
    let cut = line_end rest k p in
    let own = is ∙ ap (λ l. take 1048578 (kept ++ l)) cut in
    let stopped = stops_end reply old mid new kept held count n f line done (take (k - 1) rest) (drop k rest) g p.before own stop same in
    let whole : xs ≡ done ++ ((take (k - 1) rest ++ 10 ∷ []) ++ drop k rest) =
    order ∙ ap (λ l. done ++ l) (sym (take-append-drop k rest) ∙ ap (λ l. l ++ drop k rest) cut) in
    subst (λ l. StopsWithin reply old new count f line l) (sym whole) stopped

pub stops_between_at : (reply : List ℕ → List ℕ) (old new : Option (List ℕ)) (kept : List ℕ) (count n : ℕ) (line xs done rest : List ℕ)
    → xs ≡ done ++ rest → Goes reply old new kept count n line done → StopsWithin reply old new count (Memory n) line xs
stops_between_at reply old new kept count n line xs done rest order g =
    subst (λ l. StopsWithin reply old new count (Memory n) line l) (sym order) (stops_between reply old new kept count n line done rest g)

-- the part of a piece that is done, and the rest of it
pub done_more : (xs done rest left : List ℕ) (k : ℕ) → xs ≡ done ++ rest → left ≡ drop k rest → xs ≡ (done ++ take k rest) ++ left
done_more xs done rest left k order is =
    order ∙ ap (λ l. done ++ l) (sym (take-append-drop k rest)) ∙ sym (append_assoc done (take k rest) (drop k rest))
    ∙ ap (λ l. (done ++ take k rest) ++ l) (sym is)

served_then : (reply : List ℕ → List ℕ) (line p m q k : List ℕ) (rs ss : List (List ℕ)) → ServesPiece reply line p rs m → ServesPiece reply m q ss k
    → ServesPiece reply line (p ++ q) (rs ++ ss) k
served_then reply line p m q k rs ss s t = record {
  goes_on = λ more.
      ap (λ l. replies reply (lines_behind line l)) (append_assoc p q more) ∙ s.goes_on (q ++ more) ∙ ap (λ l. rs ++ l) (t.goes_on more)
      ∙ sym (append_assoc rs ss (replies reply (lines_behind k more)));
  ends_on = λ more.
      ap (λ l. replies reply (ended line l)) (append_assoc p q more) ∙ s.ends_on (q ++ more) ∙ ap (λ l. rs ++ l) (t.ends_on more)
      ∙ sym (append_assoc rs ss (replies reply (ended k more)));
}

pub goes_then : (reply : List ℕ → List ℕ) (old mid new : Option (List ℕ)) (kept after : List ℕ) (count n m : ℕ) (line p q : List ℕ)
    → Goes reply old mid kept count n line p → ((l : List ℕ) → StandsFor kept l → Goes reply mid new after n m l q)
    → Goes reply old new after count m line (p ++ q)
goes_then reply old mid new kept after count n m line p q g then =
    let h = then g.line2 g.stands in
    record {
      texts = g.texts ++ h.texts;
      line2 = h.line2;
      stands = h.stands;
      served = served_then reply line p g.line2 q h.line2 g.texts h.texts g.served h.served;
      written = subst (λ l. Appends old new l) (sym (concat-append g.texts h.texts))
          (Appends-trans old mid new (concat g.texts) (concat h.texts) g.written h.written);
      counted = omega (arith, g.counted, h.counted, length-append g.texts h.texts);
    }

-- a caller's view of serving that stopped
abbrev pub CutOff : (List ℕ → List ℕ) → Option (List ℕ) → Option (List ℕ) → List ℕ → ServeFault → Type 0
CutOff reply old new input f =
    (written : List ℕ) × Appends old new written × IsCutOff (replies reply (lines_of input)) written (count_in f) × IsEndedBy reply input written f

-- the texts that are written whole, and a prefix of the next one
cut_off : (texts whole later : List (List ℕ)) (next : List ℕ) (k : ℕ) → texts ≡ whole ++ later → k ≡ length whole → IsShort next later
    → IsCutOff texts (concat whole ++ next) k
cut_off texts whole later next k e n short =
    let size : length texts ≡ length whole + length later = ap length e ∙ length-append whole later in
    let front : take k texts ≡ whole = ap (λ l. take k l) e ∙ take_at whole later k (sym n) in
    let back : drop k texts ≡ later = ap (λ l. drop k l) e ∙ drop_at whole later k (sym n) in
    record {
      within = omega (arith, size, n);
      next = next;
      order = ap (λ l. concat l ++ next) (sym front);
      short = subst (λ l. IsShort next l) (sym back) short;
    }

ended_by : (reply : List ℕ → List ℕ) (input : List ℕ) (whole later : List (List ℕ)) (next : List ℕ) (f : ServeFault)
    → replies reply (lines_of input) ≡ whole ++ later → count_in f ≡ length whole
    → StopsBefore f next later → IsEndedBy reply input (concat whole ++ next) f
ended_by reply input whole later next (Read k) e n why = absurd why
ended_by reply input whole later next (Write k) e n why =
    let size : length (replies reply (lines_of input)) ≡ length whole + length later = ap length e ∙ length-append whole later in
    omega (arith, size, n, why)
ended_by reply input whole later next (Memory k) e n why =
    let front : take k (replies reply (lines_of input)) ≡ whole = ap (λ l. take k l) e ∙ take_at whole later k (sym n) in
    ap (λ l. concat whole ++ l) why ∙ append-nil (concat whole) ∙ ap concat (sym front)
ended_by reply input whole later next (Endless k) e n why = absurd why

-- when the reader is called again, no reply is owed
pub cut_between : (reply : List ℕ → List ℕ) (old new : Option (List ℕ)) (kept : List ℕ) (n : ℕ) (input : List ℕ) → Goes reply old new kept 0 n [] input
    → (written : List ℕ) × Appends old new written × IsCutOff (replies reply (lines_of input)) written n × RepliedToEnded reply input written n
cut_between reply old new kept n input g =
    let over : replies reply (ended [] input) ≡ g.texts =
    ap (λ l. replies reply (ended [] l)) (sym (append-nil input)) ∙ g.served.ends_on [] ∙ append-nil g.texts in
    let order : replies reply (lines_of input) ≡ g.texts ++ replies reply (lines_behind g.line2 []) =
    ap (λ l. replies reply (lines_of l)) (sym (append-nil input)) ∙ g.served.goes_on [] in (
      concat g.texts ++ [],
      subst (λ l. Appends old new l) (sym (append-nil (concat g.texts))) g.written,
      cut_off (replies reply (lines_of input)) g.texts (replies reply (lines_behind g.line2 [])) [] n order (omega (arith, g.counted)) tt,
      (append-nil (concat g.texts) ∙ ap concat (sym over), omega (arith, g.counted, ap length over)),
    )

pub cut_stopped : (reply : List ℕ → List ℕ) (old mid new : Option (List ℕ)) (kept : List ℕ) (n : ℕ) (f : ServeFault) (input q : List ℕ)
    → Goes reply old mid kept 0 n [] input → ((l : List ℕ) → StandsFor kept l → StopsWithin reply mid new n f l q) → CutOff reply old new (input ++ q) f
cut_stopped reply old mid new kept n f input q g stop =
    let h = stop g.line2 g.stands in
    let text : concat (g.texts ++ h.texts) ++ h.next ≡ concat g.texts ++ (concat h.texts ++ h.next) =
    ap (λ l. l ++ h.next) (concat-append g.texts h.texts) ∙ append_assoc (concat g.texts) (concat h.texts) h.next in
    let order : replies reply (lines_of (input ++ q)) ≡ (g.texts ++ h.texts) ++ h.stopped.later =
    g.served.goes_on q ∙ ap (λ l. g.texts ++ l) h.stopped.order ∙ sym (append_assoc g.texts h.texts h.stopped.later) in
    let size : count_in f ≡ length (g.texts ++ h.texts) = omega (arith, g.counted, h.counted, length-append g.texts h.texts) in (
      concat (g.texts ++ h.texts) ++ h.next,
      subst (λ l. Appends old new l) (sym text) (Appends-trans old mid new (concat g.texts) (concat h.texts ++ h.next) g.written h.written),
      cut_off (replies reply (lines_of (input ++ q))) (g.texts ++ h.texts) h.stopped.later h.next (count_in f) order size h.stopped.short,
      ended_by reply (input ++ q) (g.texts ++ h.texts) h.stopped.later h.next f order size h.stopped.why,
    )

-- at the end of the input, the last line is answered
pub served_whole : (reply : List ℕ → List ℕ) (old mid new : Option (List ℕ)) (kept : List ℕ) (n m : ℕ) (input : List ℕ)
    → Goes reply old mid kept 0 n [] input → ((l : List ℕ) → EndsAs kept l → Appends mid new (concat (reply_if reply l))
    × (m ≡ n + length (reply_if reply l))) → Appends old new (concat (replies reply (lines_of input)))
served_whole reply old mid new kept n m input g write =
    let w = write g.line2 (ends_here 1048578 kept g.line2 g.stands.0 g.stands.1) in
    let own = reply_if reply g.line2 in
    let order : replies reply (lines_of input) ≡ g.texts ++ own =
    ap (λ l. replies reply (lines_of l)) (sym (append-nil input)) ∙ g.served.goes_on [] ∙ ap (λ l. g.texts ++ l) (last_replied reply g.line2) in
    subst (λ l. Appends old new l) (sym (ap concat order ∙ concat-append g.texts own)) (Appends-trans old mid new (concat g.texts) (concat own) g.written w.0)

pub cut_last : (reply : List ℕ → List ℕ) (old mid new : Option (List ℕ)) (kept : List ℕ) (n : ℕ) (f : ServeFault) (input : List ℕ)
    → Goes reply old mid kept 0 n [] input → ((l : List ℕ) → EndsAs kept l → (next : List ℕ) × IsShort next (reply_if reply l)
    × StopsBefore f next (reply_if reply l) × Appends mid new next) → count_in f ≡ n → CutOff reply old new input f
cut_last reply old mid new kept n f input g stop same =
    let s = stop g.line2 (ends_here 1048578 kept g.line2 g.stands.0 g.stands.1) in
    let order : replies reply (lines_of input) ≡ g.texts ++ reply_if reply g.line2 =
    ap (λ l. replies reply (lines_of l)) (sym (append-nil input)) ∙ g.served.goes_on [] ∙ ap (λ l. g.texts ++ l) (last_replied reply g.line2) in
    let size : count_in f ≡ length g.texts = omega (arith, g.counted, same) in (
      concat g.texts ++ s.0,
      Appends-trans old mid new (concat g.texts) s.0 g.written s.3,
      cut_off (replies reply (lines_of input)) g.texts (reply_if reply g.line2) s.0 (count_in f) order size s.1,
      ended_by reply input g.texts (reply_if reply g.line2) s.0 f order size s.2,
    )

pub consumed_none : (a b c : Option (List ℕ)) (xs ys : List ℕ) (n : ℕ) → n ≡ 0 → Consumes a b xs → Consumes b c (take n ys) → Consumes a c xs
consumed_none a b c xs ys n e p q =
    subst (λ l. Consumes a c l) (ap (λ k. xs ++ take k ys) e ∙ append-nil xs) (Consumes-trans a b c xs (take n ys) p q)
