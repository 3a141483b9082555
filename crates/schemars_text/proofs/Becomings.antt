-- Steps of writing, one after another.
use Rattle.std.proofs.Common.{◌≡◌, ◌<◌, ◌+◌, ℕ, List, [], ◌∷◌, ◌++◌, Bool, true, false, Option, Some, None, length, get_or, drop, map, refl, sym, ap, ◌∙◌, subst, append_assoc, append-nil, arith, add-one, drop-cons}
use Rattle.schemars_text.proofs.Words.{or_parts, Appends-nil, Appends-trans, Appends, IsTrue, Data, items_of, has_float, items_have_float, Text, Output, with_value, with_values, Layout, text_in, item_texts, AppendsBeginning, Holds, IsGathered, AddsText, IsSent, IsSentInPart}

-- each output that was held leads to one that is held now, and that P joins to it
abbrev pub Reaches : Holds → Holds → (Output → Output → Type 0) → Type 0
Reaches old new P = (start : Option Text) (o : Output) → old start o → (p : Output) × new start p × P o p

-- one item more of a list, where `data_of` reads an item
pub next_seen : {V : Type 0} (data_of : V → Data) (vs : List V) (i : ℕ) (other : V) (layout : Layout) (p q all : Output) → i < length vs
    → items_have_float (items_of (map data_of (drop i vs))) ≡ false
    → with_values p (item_texts layout (items_of (map data_of (drop i vs)))) ≡ all
    → (has_float (data_of (get_or vs i other)) ≡ false → q ≡ with_value p (text_in layout (data_of (get_or vs i other))))
    → (items_have_float (items_of (map data_of (drop (i + 1) vs))) ≡ false)
    × (with_values q (item_texts layout (items_of (map data_of (drop (i + 1) vs)))) ≡ all)
unfolding item_texts
next_seen data_of vs i other layout p q all within none before written =
    let cut : drop i vs ≡ get_or vs i other ∷ drop (i + 1) vs = rw add-one (drop-cons vs i other within) in
    let parts = or_parts (has_float (data_of (get_or vs i other))) (items_have_float (items_of (map data_of (drop (i + 1) vs))))
    (rw cut at none) in
    (parts.1, rw (written parts.0) (rw cut at before))

pub neither : {A : Type 0} (r : Option A) (x : A) → r ≡ Some x → r ≡ None → ⊥
neither r x some none = cc

pub no_bytes : (bs : Text) → length bs ≡ 0 → bs ≡ []
no_bytes [] h = refl
no_bytes (b ∷ bs) h = cc

-- ---- what a sink and a block hold

pub adds_then : (ab bb cb : Option Text) (ah bh ch : Bool) (al bl cl : Text) (af bf cf : Bool) (more last : Text)
    → AddsText ab ah al af bb bh bl bf more → AddsText bb bh bl bf cb ch cl cf last → AddsText ab ah al af cb ch cl cf (more ++ last)
adds_then ab bb cb ah bh ch al bl cl af bf cf more last f g start text h =
    subst (λ (t : Text). IsGathered start t cb ch cl cf) (append_assoc text more last) (g start (text ++ more) (f start text h))

-- into the block
pub gathers : (start : Option Text) (text : Text) (bytes : Option Text) (has_failed : Bool) (block new more : Text) (failed : Bool)
    → new ≡ block ++ more → IsGathered start text bytes has_failed block failed
    → IsGathered start (text ++ more) bytes has_failed new failed
gathers start text bytes has_failed block new more failed is h = record {
  sent = h.sent;
  rest = h.rest ++ more;
  whole = ap (λ t. t ++ more) h.whole ∙ append_assoc h.sent h.rest more;
  appended = h.appended;
  gathered = λ sound. ap (λ t. t ++ more) (h.gathered sound) ∙ sym is;
  why = h.why;
  sound = h.sound;
}

-- the sink has taken the block
pub takes : (start : Option Text) (text : Text) (old new : Option Text) (was is : Bool) (block : Text)
    → Appends old new block → is ≡ false → IsGathered start text old was block false → IsGathered start text new is [] false
takes start text old new was is block appended sound h = record {
  sent = h.sent ++ block;
  rest = [];
  whole = h.whole ∙ ap (λ t. h.sent ++ t) (h.gathered refl) ∙ sym (append-nil (h.sent ++ block));
  appended = Appends-trans start old new h.sent block h.appended appended;
  gathered = λ _. refl;
  why = λ e. cc;
  sound = λ _ _. sound;
}

-- the sink has failed, with a beginning of the block
pub breaks : (start : Option Text) (text : Text) (old new : Option Text) (was is : Bool) (block : Text)
    → AppendsBeginning old new block → IsTrue is → IsGathered start text old was block false → IsGathered start text new is [] true
breaks start text old new was is block (taken, rest, split, appended) failed h = record {
  sent = h.sent ++ taken;
  rest = rest;
  whole = h.whole ∙ ap (λ t. h.sent ++ t) (h.gathered refl ∙ split) ∙ sym (append_assoc h.sent taken rest);
  appended = Appends-trans start old new h.sent taken h.appended appended;
  gathered = λ e. cc;
  why = λ _. failed;
  sound = λ e _. cc;
}

-- a failed writer's block says nothing
pub stays_failed : (start : Option Text) (text : Text) (bytes : Option Text) (has_failed : Bool) (block new : Text)
    → IsGathered start text bytes has_failed block true → IsGathered start text bytes has_failed new true
stays_failed start text bytes has_failed block new h = record {
  sent = h.sent;
  rest = h.rest;
  whole = h.whole;
  appended = h.appended;
  gathered = λ e. cc;
  why = h.why;
  sound = λ e _. cc;
}

pub adds_nothing : (bytes : Option Text) (has_failed : Bool) (block : Text) (failed : Bool)
    → AddsText bytes has_failed block failed bytes has_failed block failed []
adds_nothing bytes has_failed block failed start text h =
    subst (λ (t : Text). IsGathered start t bytes has_failed block failed) (sym (append-nil text)) h

-- the same text in other words
pub gathered_same : (start : Option Text) (text a b : Text) (bytes : Option Text) (has_failed : Bool) (block : Text) (failed : Bool) → a ≡ b
    → IsGathered start (text ++ a) bytes has_failed block failed → IsGathered start (text ++ b) bytes has_failed block failed
gathered_same start text a b bytes has_failed block failed same h =
    subst (λ (t : Text). IsGathered start (text ++ t) bytes has_failed block failed) same h

-- ---- from the first byte to the last

pub gathers_none : (bytes : Option Text) (has_failed : Bool) → IsGathered bytes [] bytes has_failed [] false
gathers_none bytes has_failed = record {
  sent = [];
  rest = [];
  whole = refl;
  appended = Appends-nil bytes;
  gathered = λ _. refl;
  why = λ e. cc;
  sound = λ _ some. absurd (omega (arith, some));
}

pub all_sent : (floats : Bool) (stated text : Text) (old new : Option Text) (has_failed : Bool) → (floats ≡ false → text ≡ stated)
    → IsGathered old text new has_failed [] false → IsSent floats stated old new has_failed
all_sent floats stated text old new has_failed is h =
    let same : text ≡ h.sent = h.whole ∙ ap (λ t. h.sent ++ t) (h.gathered refl) ∙ append-nil h.sent in
    record {
      text = text;
      is = is;
      appended = subst (λ (t : Text). Appends old new t) (sym same) h.appended;
      sound = subst (λ (t : Text). 0 < length t → has_failed ≡ false) (sym same) (h.sound refl);
    }

pub some_sent : (floats : Bool) (stated text : Text) (old new : Option Text) (has_failed : Bool) → (floats ≡ false → text ≡ stated)
    → IsGathered old text new has_failed [] true → IsSentInPart floats stated old new
some_sent floats stated text old new has_failed is h = record {
  text = text;
  is = is;
  begun = (h.sent, h.rest, h.whole, h.appended);
}
