-- The strings and the keys of a text that is UTF-8 are UTF-8: as lexemes, as tokens and in the tree.
use Rattle.std.proofs.Common.{◌≡◌, ℕ, zero, suc, Bool, true, false, cond, ◌==◌, List, [], ◌∷◌, ◌++◌, length, Option, Some, None, option_and_then, refl, sym, subst, arith, append_assoc, eqb-true}
use Rattle.schemars_accepted.proofs.Words.{IfSome, ⊤, IsUtf8, Token, begin_object, end_object, begin_array, end_array, key, string, boolean, null, bad, content, plain, after_number, ends_word, head, is_operator, is_space, number_before, word, Lexeme, token, comma, colon, Class, quote, backslash, operator, space, other, class, operator_lexeme, string_token, Mode, between, in_word, in_string, in_escape, lex_byte, lex, Place, fresh, after_value, after_comma, after_key, begins_colon, may_begin, may_close, if_allowed, place_token, punctuate, tokens, Json, Items, no_items, item, member, Parse, parse_map, after_end_array, read_key, items_step, members_step, items, members, value_with, value, if_last}
use Rattle.json.specs.Token.{number}
use Rattle.json.specs.Json.{array, object, Members, no_members}
use Rattle.schemars_accepted.proofs.Unescaped.{content_is_utf8, parted}

-- ---- lexemes

-- its bytes are UTF-8, where it is a key or a string
abbrev IsText : Token → Type 0
IsText begin_object = ⊤
IsText end_object = ⊤
IsText begin_array = ⊤
IsText end_array = ⊤
IsText (key s) = IsUtf8 s
IsText (string s) = IsUtf8 s
IsText (number s) = ⊤
IsText (boolean b) = ⊤
IsText null = ⊤
IsText bad = ⊤

abbrev Tokens : List Token → Type 0
Tokens [] = ⊤
Tokens (t ∷ ts) = IsText t × Tokens ts

abbrev IsLexeme : Lexeme → Type 0
IsLexeme (token t) = IsText t
IsLexeme comma = ⊤
IsLexeme colon = ⊤

abbrev Lexemes : List Lexeme → Type 0
Lexemes [] = ⊤
Lexemes (l ∷ ls) = IsLexeme l × Lexemes ls

one_of : (b : Bool) (s t : Token) → IsText s → IsText t → IsText (cond b s t)
one_of true s t p q = p
one_of false s t p q = q

number_cut : (t : List ℕ) (o : Option (List ℕ)) → IsText (number_before t o)
number_cut t None = tt
number_cut t (Some rest) = one_of (ends_word rest) _ bad tt tt

a_word : (t : List ℕ) → IsText (word t)
unfolding word
a_word t =
    one_of (head t == 116) _ _ (one_of _ (boolean true) bad tt tt) (one_of (head t == 102) _ _ (one_of _ (boolean false) bad tt tt)
    (one_of (head t == 110) _ _ (one_of _ null bad tt tt) (number_cut t (after_number t))))

mark : (b : Bool) (x y : Lexeme) → IsLexeme x → IsLexeme y → IsLexeme (cond b x y)
mark true x y p q = p
mark false x y p q = q

marks : (x : ℕ) → IsLexeme (operator_lexeme x)
marks x =
    mark (x == 123) (token begin_object) _ tt (mark (x == 125) (token end_object) _ tt (mark (x == 91) (token begin_array) _ tt
    (mark (x == 93) (token end_array) _ tt (mark (x == 44) comma colon tt tt))))

a_string : (o : Option (List ℕ)) → IfSome o IsUtf8 → IsText (string_token o)
a_string None h = tt
a_string (Some s) h = h

byte : (m : Mode) (c : Class) (x : ℕ) (xs : List ℕ) (k : Mode → List Lexeme) → (c ≡ quote → IsUtf8 xs) → ((n : Mode) → Lexemes (k n))
    → Lexemes (lex_byte m c x xs k)
byte between quote x xs k u h = (a_string (content plain xs) (content_is_utf8 xs (u refl)), h in_string)
byte between backslash x xs k u h = (tt, h in_word)
byte between operator x xs k u h = (marks x, h between)
byte between space x xs k u h = h between
byte between other x xs k u h = (a_word (x ∷ xs), h in_word)
byte in_word quote x xs k u h = h in_word
byte in_word backslash x xs k u h = h in_word
byte in_word operator x xs k u h = (marks x, h between)
byte in_word space x xs k u h = h between
byte in_word other x xs k u h = h in_word
byte in_string quote x xs k u h = h between
byte in_string backslash x xs k u h = h in_escape
byte in_string operator x xs k u h = h in_string
byte in_string space x xs k u h = h in_string
byte in_string other x xs k u h = h in_string
byte in_escape c x xs k u h = h in_string

no_quote : (b : Bool) (c d : Class) → (c ≡ quote → ⊥) → (d ≡ quote → ⊥) → cond b c d ≡ quote → ⊥
no_quote true c d p q = p
no_quote false c d p q = q

a_quote : (b : Bool) (c : Class) → (c ≡ quote → ⊥) → cond b quote c ≡ quote → b ≡ true
a_quote true c never e = refl
a_quote false c never e = absurd (never e)

quote_byte : (x : ℕ) → class x ≡ quote → x ≡ 34
quote_byte x e = eqb-true x 34 (a_quote (x == 34) _
    (no_quote (x == 92) backslash _ (λ e. cc)
    (no_quote (is_operator x) operator _ (λ e. cc) (no_quote (is_space x) space other (λ e. cc) (λ e. cc)))) e)

-- the lexemes of what follows the bytes before it
lexed : (xs before : List ℕ) (m : Mode) → IsUtf8 (before ++ xs) → Lexemes (lex m xs)
unfolding lex
lexed [] before m u = tt
lexed (x ∷ xs) before m u =
    let after : class x ≡ quote → IsUtf8 xs = λ e. let same = quote_byte x e in (parted before xs x u (omega arith)).1 in
    let later : IsUtf8 ((before ++ x ∷ []) ++ xs) = subst IsUtf8 (sym (append_assoc before (x ∷ []) xs)) u in
    byte m (class x) x xs (λ n. lex n xs) after (λ n. lexed xs (before ++ x ∷ []) n later)

-- ---- tokens

allowed : (b : Bool) (t : Token) (k : Place → List Token) (next : Place) → IsText t → Tokens (k next) → Tokens (if_allowed b t k next)
allowed true t k next p q = (p, q)
allowed false t k next p q = (tt, tt)

placed : (p : Place) (t : Token) (b : Bool) (k : Place → List Token) → IsText t → ((n : Place) → Tokens (k n))
    → Tokens (place_token p t b k)
placed p begin_object b k q h = allowed (may_begin p) begin_object k fresh q (h fresh)
placed p end_object b k q h = allowed (may_close p) end_object k after_value q (h after_value)
placed p begin_array b k q h = allowed (may_begin p) begin_array k fresh q (h fresh)
placed p end_array b k q h = allowed (may_close p) end_array k after_value q (h after_value)
placed p (key s) b k q h = (tt, tt)
placed p (string s) true k q h = allowed (may_begin p) (key s) k after_key q (h after_key)
placed p (string s) false k q h = allowed (may_begin p) (string s) k after_value q (h after_value)
placed p (number s) b k q h = allowed (may_begin p) (number s) k after_value q (h after_value)
placed p (boolean v) b k q h = allowed (may_begin p) (boolean v) k after_value q (h after_value)
placed p null b k q h = allowed (may_begin p) null k after_value q (h after_value)
placed p bad b k q h = (tt, tt)

punctuated : (ls : List Lexeme) → Lexemes ls → (p : Place) → Tokens (punctuate p ls)
unfolding punctuate
punctuated [] h fresh = tt
punctuated [] h after_value = tt
punctuated [] h after_comma = (tt, tt)
punctuated [] h after_key = (tt, tt)
punctuated (token t ∷ ls) h p = placed p t (begins_colon ls) (λ n. punctuate n ls) h.0 (punctuated ls h.1)
punctuated (comma ∷ ls) h fresh = (tt, tt)
punctuated (comma ∷ ls) h after_value = punctuated ls h.1 after_comma
punctuated (comma ∷ ls) h after_comma = (tt, tt)
punctuated (comma ∷ ls) h after_key = (tt, tt)
punctuated (colon ∷ ls) h fresh = (tt, tt)
punctuated (colon ∷ ls) h after_value = (tt, tt)
punctuated (colon ∷ ls) h after_comma = (tt, tt)
punctuated (colon ∷ ls) h after_key = punctuated ls h.1 fresh

-- ---- trees

-- its strings and its keys are UTF-8
abbrev mutual
  pub HasTexts : Json → Type 0
  HasTexts Json.null = ⊤
  HasTexts (Json.boolean b) = ⊤
  HasTexts (Json.number s) = ⊤
  HasTexts (Json.string s) = IsUtf8 s
  HasTexts (array js) = ItemsHaveTexts js
  HasTexts (object ms) = MembersHaveTexts ms

  pub ItemsHaveTexts : Items → Type 0
  ItemsHaveTexts no_items = ⊤
  ItemsHaveTexts (item j js) = HasTexts j × ItemsHaveTexts js

  pub MembersHaveTexts : Members → Type 0
  MembersHaveTexts no_members = ⊤
  MembersHaveTexts (member k j ms) = IsUtf8 k × HasTexts j × MembersHaveTexts ms

abbrev Gives : {A : Type 0} → (A → Type 0) → Option (A × List Token) → Type 0
Gives Q None = ⊤
Gives Q (Some p) = Q p.0 × Tokens p.1

abbrev Keeps : {A : Type 0} → (A → Type 0) → Parse A → Type 0
Keeps Q p = (ts : List Token) → Tokens ts → Gives Q (p ts)

mapped : {A B : Type 0} (P : A → Type 0) (Q : B → Type 0) (f : A → B) → ((a : A) → P a → Q (f a))
    → (o : Option (A × List Token)) → Gives P o → Gives Q (parse_map f o)
mapped P Q f g None h = tt
mapped P Q f g (Some p) h = (g p.0 h.0, h.1)

and_more : {B : Type 0} (Q : B → Type 0) (f : Json → B → B) → ((j : Json) (b : B) → HasTexts j → Q b → Q (f j b)) → (more : Parse B)
    → Keeps Q more → (o : Option (Json × List Token)) → Gives HasTexts o → Gives Q (option_and_then (λ q. parse_map (f q.0) (more q.1)) o)
and_more Q f g more keeps None h = tt
and_more Q f g more keeps (Some q) h = mapped Q Q (f q.0) (λ b. g q.0 b h.0) _ (keeps q.1 h.1)

closing : (ts : List Token) → Tokens ts → IfSome (after_end_array ts) Tokens
closing [] h = tt
closing (begin_object ∷ ts) h = tt
closing (end_object ∷ ts) h = tt
closing (begin_array ∷ ts) h = tt
closing (end_array ∷ ts) h = h.1
closing (key s ∷ ts) h = tt
closing (string s ∷ ts) h = tt
closing (number s ∷ ts) h = tt
closing (boolean v ∷ ts) h = tt
closing (null ∷ ts) h = tt
closing (bad ∷ ts) h = tt

naming : Keeps (λ k. IfSome k IsUtf8) read_key
naming [] h = tt
naming (begin_object ∷ ts) h = tt
naming (end_object ∷ ts) h = (tt, h.1)
naming (begin_array ∷ ts) h = tt
naming (end_array ∷ ts) h = tt
naming (key s ∷ ts) h = h
naming (string s ∷ ts) h = tt
naming (number s ∷ ts) h = tt
naming (boolean v ∷ ts) h = tt
naming (null ∷ ts) h = tt
naming (bad ∷ ts) h = tt

module _ (p : Parse Json) (keeps : Keeps HasTexts p) where
  item_turn : (more : Parse Items) → Keeps ItemsHaveTexts more → (ts : List Token) → Tokens ts → (o : Option (List Token)) → IfSome o Tokens
      → Gives ItemsHaveTexts (items_step p more ts o)
  item_turn more again ts h (Some r) q = (tt, q)
  item_turn more again ts h None q = and_more ItemsHaveTexts item (λ j b x y. (x, y)) more again (p ts) (keeps ts h)

  items_kept : (n : ℕ) → Keeps ItemsHaveTexts (items p n)
  unfolding items
  items_kept zero ts h = tt
  items_kept (suc n) ts h = item_turn (items p n) (items_kept n) ts h (after_end_array ts) (closing ts h)

  member_turn : (more : Parse Members) → Keeps MembersHaveTexts more → (o : Option (Option (List ℕ) × List Token))
      → Gives (λ k. IfSome k IsUtf8) o → Gives MembersHaveTexts (option_and_then (λ q. members_step p more q.0 q.1) o)
  member_turn more again None h = tt
  member_turn more again (Some (None, s)) h = (tt, h.1)
  member_turn more again (Some (Some k, s)) h = and_more MembersHaveTexts (member k) (λ j b x y. (h.0, x, y)) more again (p s) (keeps s h.1)

  members_kept : (n : ℕ) → Keeps MembersHaveTexts (members p n)
  unfolding members
  members_kept zero ts h = tt
  members_kept (suc n) ts h = member_turn (members p n) (members_kept n) (read_key ts) (naming ts h)

value_kept_by : (a : Parse Items) (o : Parse Members) → Keeps ItemsHaveTexts a → Keeps MembersHaveTexts o → Keeps HasTexts (value_with a o)
value_kept_by a o p q [] h = tt
value_kept_by a o p q (begin_object ∷ ts) h = mapped MembersHaveTexts HasTexts object (λ m x. x) _ (q ts h.1)
value_kept_by a o p q (end_object ∷ ts) h = tt
value_kept_by a o p q (begin_array ∷ ts) h = mapped ItemsHaveTexts HasTexts array (λ m x. x) _ (p ts h.1)
value_kept_by a o p q (end_array ∷ ts) h = tt
value_kept_by a o p q (key s ∷ ts) h = tt
value_kept_by a o p q (string s ∷ ts) h = h
value_kept_by a o p q (number s ∷ ts) h = h
value_kept_by a o p q (boolean v ∷ ts) h = h
value_kept_by a o p q (null ∷ ts) h = h
value_kept_by a o p q (bad ∷ ts) h = tt

value_kept : (depth : ℕ) → Keeps HasTexts (value depth)
unfolding value
value_kept zero = value_kept_by (λ ts. None) (λ ts. None) (λ ts h. tt) (λ ts h. tt)
value_kept (suc d) =
    value_kept_by (λ ts. items (value d) (length ts) ts) (λ ts. members (value d) (length ts) ts)
    (λ ts. items_kept (value d) (value_kept d) (length ts) ts) (λ ts. members_kept (value d) (value_kept d) (length ts) ts)

last : (o : Option (Json × List Token)) → Gives HasTexts o → IfSome (option_and_then (λ p. if_last p.0 p.1) o) HasTexts
last None h = tt
last (Some (j, [])) h = h.0
last (Some (j, t ∷ ts)) h = tt

-- the tree of a text
pub tree_has_texts : (depth : ℕ) (text : List ℕ) → IsUtf8 text
    → IfSome (option_and_then (λ p. if_last p.0 p.1) (value depth (tokens text))) HasTexts
tree_has_texts depth text u =
    let texts = punctuated (lex between text) (lexed text [] between u) fresh in
    last (value depth (tokens text)) (value_kept depth (tokens text) texts)
