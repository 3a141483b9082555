-- A comma where one is due, and the digits.
use Rattle.std.proofs.Common.{◌≡◌, Bool, List, ℕ, ◌&&◌, true, None, cond, rules, ◌∷◌, [], ◌++◌, refl, sym, ap, ap₂, ◌∙◌}
use Rattle.schemars_text.proofs.Words.{signed_decimal, number, as_u64, as_i64, number_view, number_text, with_token}
use Rattle.schemars_text.proofs.Becomings.{adds_then, gathered_same}
use Rattle.schemars_text.proofs.Outputs.{number_text_of_u64, number_text_of_i64, whole_or_float}
use Rattle.schemars_text.proofs.gathered.GatheredTarget.number.Goals as goal

pub returns-in-Some : goal.returns-in-Some
returns-in-Some g c = λ start o h.
    let t = number_text (number_view c.args.n) in
    let due = ap (λ (after : Bool). cond (after && true) (44 ∷ []) []) h.0 in
    let digits = c.as_bytes.ensures.value ∙ c.format.ensures.text ∙ sym (number_text_of_u64 _ _ (sym c.in-Some.ensures)) in (
      with_token o (number t),
      (
        c.put.ensures.after,
        gathered_same start o.text _ _ _ _ _ _ (ap₂ (λ (l d : List ℕ). l ++ d) due digits)
            (adds_then _ _ _ _ _ _ _ _ _ _ _ _ _ _ c.put_comma.ensures.adds c.put.ensures.adds start o.text h.1),
      ),
      λ _. refl,
    )

pub returns-in-Some-as_i64 : goal.returns-in-Some-as_i64
returns-in-Some-as_i64 g c = λ start o h.
    let t = number_text (number_view c.args.n) in
    let text : c.format-in-Some-as_i64.result.now ≡ signed_decimal c.in-Some-as_i64.below_zero = search rules in
    let due = ap (λ (after : Bool). cond (after && true) (44 ∷ []) []) h.0 in
    let digits = c.as_bytes-in-Some-as_i64.ensures.value ∙ text ∙ sym (number_text_of_i64 _ _ (sym c.in-Some-as_i64.ensures)) in (
      with_token o (number t),
      (
        c.put-in-Some-as_i64.ensures.after,
        gathered_same start o.text _ _ _ _ _ _ (ap₂ (λ (l d : List ℕ). l ++ d) due digits)
            (adds_then _ _ _ _ _ _ _ _ _ _ _ _ _ _ c.put_comma.ensures.adds c.put-in-Some-as_i64.ensures.adds start o.text h.1),
      ),
      λ _. refl,
    )

pub returns-in-Some-as_f64 : goal.returns-in-Some-as_f64
returns-in-Some-as_f64 g c = λ start o h.
    let no_unsigned : as_u64 (number_view c.args.n) ≡ None = search rules in
    let no_signed : as_i64 (number_view c.args.n) ≡ None = search rules in (
      record { text = o.text ++ (cond (o.after_value && true) (44 ∷ []) [] ++ c.as_bytes-in-Some-as_f64.result.now); after_value = true },
      (
        c.put-in-Some-as_f64.ensures.after,
        rw (sym h.0)
            (adds_then _ _ _ _ _ _ _ _ _ _ _ _ _ _ c.put_comma.ensures.adds c.put-in-Some-as_f64.ensures.adds start o.text h.1),
      ),
      λ whole. absurd (whole_or_float (number_view c.args.n) no_unsigned no_signed whole),
    )

pub returns-in_default-as_f64 : goal.returns-in_default-as_f64
returns-in_default-as_f64 g c = λ start o h.
    let no_unsigned : as_u64 (number_view c.args.n) ≡ None = search rules in
    let no_signed : as_i64 (number_view c.args.n) ≡ None = search rules in (
      record { text = o.text ++ cond (o.after_value && true) (44 ∷ []) []; after_value = true },
      (refl, rw (sym h.0) (c.put_comma.ensures.adds start o.text h.1)),
      λ whole. absurd (whole_or_float (number_view c.args.n) no_unsigned no_signed whole),
    )
