-- Removing an extension does not make a TBSCertificate longer.
use Rattle.std.proofs.Common.{◌<◌, ◌≤◌, ◌+◌, ℕ, Bool, true, false, cond, eqb, List, [], ◌++◌, length, ap, ◌∙◌, arith}
use Rattle.std.proofs.lemmas.List.{length-append}
use Rattle.ct_promise.specs.Element.{IsTlv}
use Rattle.ct_promise.specs.DerWriting.{element_text}
use Rattle.ct_promise.proofs.DerWritten.{contents_fit, elements_grow}
use Rattle.ct_promise.specs.Tbs.{Parts, IsParted}
use Rattle.ct_promise.specs.Reading.{extensions_text}

kept_less : (f c b : List ℕ) → length (f ++ b) ≤ length (f ++ (c ++ b))
kept_less f c b =
    let x = length-append f b in
    let y = length-append f (c ++ b) ∙ ap (λ (n : ℕ). length f + n) (length-append c b) in
    omega (arith, x, y)

field_less : (list c inner x : List ℕ) (none : Bool) → IsTlv 48 c inner → IsTlv 163 inner x → length list ≤ length c
    → length (cond none [] (element_text 163 (element_text 48 list))) ≤ length x
field_less list c inner x true is outer low = omega arith
field_less list c inner x false is outer low =
    elements_grow 163 163 (element_text 48 list) inner x outer (elements_grow 48 48 list c inner is low)

pub lists_fit : (identifier : List ℕ) (p : Parts) (b : List ℕ) → IsParted identifier p b → length (p.front ++ p.behind) < 4294967296
lists_fit identifier p b is =
    let top = contents_fit 48 (p.front ++ (p.cut ++ p.behind)) is.list is.list_is in
    omega (arith, top, kept_less p.front p.cut p.behind)

pub field_fits : (identifier : List ℕ) (p : Parts) (b : List ℕ) → IsParted identifier p b → length (element_text 48 (p.front ++ p.behind)) < 4294967296
field_fits identifier p b is =
    let top = contents_fit 163 is.list is.field is.field_is in
    let less = elements_grow 48 48 (p.front ++ p.behind) (p.front ++ (p.cut ++ p.behind)) is.list is.list_is (kept_less p.front p.cut p.behind) in
    omega (arith, top, less)

pub fields_fit : (identifier : List ℕ) (p : Parts) (b : List ℕ) → IsParted identifier p b
    → length (p.head ++ extensions_text (p.front ++ p.behind)) < 4294967296
fields_fit identifier p b is =
    let list = p.front ++ p.behind in
    let top = contents_fit 48 (p.head ++ is.field) b is.text in
    let less : length (extensions_text list) ≤ length is.field =
    field_less list (p.front ++ (p.cut ++ p.behind)) is.list is.field (eqb (length list) 0) is.list_is is.field_is (kept_less p.front p.cut p.behind) in
    let x = length-append p.head (extensions_text list) in
    let y = length-append p.head is.field in
    omega (arith, top, less, x, y)
