-- What a value is not, by its first token: only a list begins with the token that opens one, and so on.
use Rattle.std.proofs.Common.{◌≡◌, ◌≢◌, ℕ, zero, suc, ◌-◌, List, ◌∷◌, Bool, Bor, Option, Some, None, refl, ap, ◌∙◌, sym, arith}
use Rattle.schemagen_input.proofs.Words.{parse_map, value, token_of, value_is, Data, Num, null, boolean, number, string, array, object, Items, Members, as_array, as_bool, as_object, as_str, of_json, converted, number_of, externally_tagged, string_read, boolean_read, null_read, number_read, number_refused, array_opened, object_opened, array_too_deep, object_too_deep, items_at, members_at}
use Rattle.json.specs.Token as spec
use Rattle.json.specs.declared.token.Token.{Token}
use Rattle.json.specs.declared.token.Token.TheVariants.{BeginObject, EndObject, BeginArray, EndArray, Key, String, Number, Bool as Truth, Null, Bad}

abbrev Read : Type 0
Read = Option (Data × List spec.Token)

same_first : (o : Read) (c d : Data) (r after : List spec.Token) → o ≡ Some (c, r) → o ≡ Some (d, after) → c ≡ d
same_first o c d r after e f = let same : (c, r) ≡ (d, after) = cc in ap (λ (q : Data × List spec.Token). q.0) same

module _ {A : Type 0} (f : Data → Option A) where
  is_none : (o : Read) (c d : Data) (r after : List spec.Token) → f c ≡ None → o ≡ Some (c, r) → o ≡ Some (d, after) → f d ≡ None
  is_none o c d r after none e is = ap f (sym (same_first o c d r after e is)) ∙ none

  nothing : (o : Read) (d : Data) (after : List spec.Token) → o ≡ None → o ≡ Some (d, after) → f d ≡ None
  nothing o d after none is = cc

  inside : {B : Type 0} (g : B → Data) (o : Option (B × List spec.Token)) (d : Data) (after : List spec.Token) → ((b : B) → f (g b) ≡ None)
      → parse_map g o ≡ Some (d, after) → f d ≡ None
  inside g None d after none is = cc
  inside g (Some p) d after none is = is_none _ (g p.0) d p.1 after (none p.0) refl is

  -- what the value is not that begins with a token of another kind
  other_kind : (depth : ℕ) (t : Token) (rest after : List spec.Token) (d : Data) → f null ≡ None → ((n : Num) → f (number n) ≡ None)
      → ((s : Bor (List ℕ)) → t ≡ String s → f (string s.now) ≡ None) → ((b : Bool) → t ≡ Truth b → f (boolean b) ≡ None)
      → (t ≡ BeginArray → (is : Items) → f (array is) ≡ None) → (t ≡ BeginObject → (ms : Members) → f (object ms) ≡ None)
      → converted of_json (value depth (token_of t ∷ rest)) ≡ Some (d, after) → f d ≡ None
  other_kind depth EndObject rest after d nulls numbers strings truths arrays objects is =
      nothing _ d after (ap (converted of_json) (value_is depth (spec.end_object ∷ rest))) is
  other_kind depth EndArray rest after d nulls numbers strings truths arrays objects is =
      nothing _ d after (ap (converted of_json) (value_is depth (spec.end_array ∷ rest))) is
  other_kind depth (Key s) rest after d nulls numbers strings truths arrays objects is =
      nothing _ d after (ap (converted of_json) (value_is depth (spec.key s.now ∷ rest))) is
  other_kind depth Bad rest after d nulls numbers strings truths arrays objects is =
      nothing _ d after (ap (converted of_json) (value_is depth (spec.bad ∷ rest))) is
  other_kind depth (String s) rest after d nulls numbers strings truths arrays objects is =
      is_none _ (string s.now) d rest after (strings s refl) (string_read depth _ rest s.now refl) is
  other_kind depth (Number s) rest after d nulls numbers strings truths arrays objects is = by (number_of s.now) refl
    where
      by : (o : Option Num) → number_of s.now ≡ o → f d ≡ None
      by None none = nothing _ d after (number_refused depth _ rest s.now refl none) is
      by (Some n) found = is_none _ (number n) d rest after (numbers n) (number_read depth _ rest s.now n refl found) is
  other_kind depth (Truth b) rest after d nulls numbers strings truths arrays objects is =
      is_none _ (boolean b) d rest after (truths b refl) (boolean_read depth _ rest b refl) is
  other_kind depth Null rest after d nulls numbers strings truths arrays objects is =
      is_none _ null d rest after nulls (null_read depth _ rest refl) is
  other_kind zero BeginArray rest after d nulls numbers strings truths arrays objects is = nothing _ d after (array_too_deep _ rest refl) is
  other_kind (suc depth) BeginArray rest after d nulls numbers strings truths arrays objects is =
      inside array (items_at (suc depth - 1) rest) d after (arrays refl) (sym (array_opened (suc depth) _ rest (omega arith) refl) ∙ is)
  other_kind zero BeginObject rest after d nulls numbers strings truths arrays objects is = nothing _ d after (object_too_deep _ rest refl) is
  other_kind (suc depth) BeginObject rest after d nulls numbers strings truths arrays objects is =
      inside object (members_at (suc depth - 1) rest) d after (objects refl) (sym (object_opened (suc depth) _ rest (omega arith) refl) ∙ is)

module _ (depth : ℕ) (t : Token) (rest after : List spec.Token) (d : Data) (is : converted of_json (value depth (token_of t ∷ rest)) ≡ Some (d, after)) where
  pub not_object : t ≢ BeginObject → as_object d ≡ None
  not_object other =
      other_kind as_object depth t rest after d refl (λ n. refl) (λ s first. refl) (λ b first. refl) (λ first items. refl) (λ first. absurd (other first)) is

  pub not_array : t ≢ BeginArray → as_array d ≡ None
  not_array other =
      other_kind as_array depth t rest after d refl (λ n. refl) (λ s first. refl) (λ b first. refl) (λ first. absurd (other first)) (λ first ms. refl) is

  pub not_string : ((s : Bor (List ℕ)) → t ≢ String s) → as_str d ≡ None
  not_string other =
      other_kind as_str depth t rest after d refl (λ n. refl) (λ s first. absurd (other s first)) (λ b first. refl) (λ first items. refl) (λ first ms. refl) is

  pub not_truth : ((b : Bool) → t ≢ Truth b) → as_bool d ≡ None
  not_truth other =
      other_kind as_bool depth t rest after d refl (λ n. refl) (λ s first. refl) (λ b first. absurd (other b first)) (λ first items. refl) (λ first ms. refl) is

  pub not_tagged : {T : Type 0} (unit : List ℕ → Option T) (content : List ℕ → Data → Option T) → ((s : Bor (List ℕ)) → t ≢ String s)
      → t ≢ BeginObject → externally_tagged unit content d ≡ None
  not_tagged unit content not_text not_members =
      other_kind (externally_tagged unit content) depth t rest after d refl (λ n. refl) (λ s first. absurd (not_text s first)) (λ b first. refl)
      (λ first items. refl) (λ first. absurd (not_members first)) is
