-- The references of maps that fill templates, with the fields of flattened rows among their own.
use Rattle.std.proofs.Common.{◌≡◌, List, [], ◌∷◌, ◌++◌, map, Bool, true, false, refl, sym, ap, ◌∙◌, subst, Contains, append_assoc, append-nil}
use Rattle.schemars_meaning.proofs.Words.{All, bytes_eq, map-append, All-nil, Data, Members, no_members, put, Text, put_all, found_in_members, references, flipped, text_items, unit_variant, internally_tagged_variant, flattened, Field, Flattened, Fields, Row, is_required, flattened_fields, effective, flattened_in, Keyword, required_names, annotated, IsNoName, AreDistinct, AreNoted, IsPlainPart, ArePlainParts, Template, Ask, part, members_of, finished, asked, list, members, nullable, noted, Templates, no_templates, template, asks_of, asks_in, first, left, left_in, keyed, filled, filled_in, templates_of, property, map_template, fields_template, with_flattened, struct_template, AreAnswered, references_of, All-contains, All-contains_itself, with_keywords, tagged, behind, found_in}
use Rattle.schemars_types.specs.declared.contract.Contract.{Contract}
use Rattle.schemars_meaning.proofs.Rows.{asks_at}
use Rattle.schemars_meaning.proofs.MapDocument.{map_document, noted_by, AllNotes}
use Rattle.schemars_meaning.proofs.Flattened.{noted_by-append, AllNotes-append, must_be_present}
use Rattle.schemars_meaning.proofs.Flattening.{flattened-maps, tagged-map}
use Rattle.schemars_meaning.proofs.Spread.{field_keywords, AreWritten, IsFieldsDocument, AnswersFields}
use Rattle.schemars_meaning.proofs.ReferencesKept.{Among, among_left, among_right, among_append, among_equal, among_turn, members-new, references-annotated, IsNoKey, AreApart, AreNew, still_new, none_there}
use Rattle.schemars_meaning.proofs.Refers.{named-put}

-- ---- answers in order

module _ (Answers : Ask → Data → Type 0) where
  pub regroup : (xs ys zs : List Ask) (ts : List Data) → AreAnswered Answers ((xs ++ ys) ++ zs) ts
      → AreAnswered Answers (xs ++ (ys ++ zs)) ts
  regroup xs ys zs ts h = subst (λ us. AreAnswered Answers us ts) (append_assoc xs ys zs) h

  -- what is left of the answers is answered to what follows
  mutual
    pub answered_left : (t : Template) (rest : List Ask) (ts : List Data) → AreAnswered Answers (asks_of t ++ rest) ts
        → AreAnswered Answers rest (left t ts)
    answered_left (finished d) rest ts h = h
    answered_left (asked a) rest [] h = absurd h
    answered_left (asked a) rest (t ∷ ts) h = h.1
    answered_left (list es) rest ts h = answered_left_in es rest ts h
    answered_left (members ks es) rest ts h = answered_left_in es rest ts h
    answered_left (nullable t) rest ts h = answered_left t rest ts h
    answered_left (noted notes t) rest ts h = answered_left t rest ts h
    answered_left (with_keywords t u) rest ts h =
        answered_left u rest (left t ts) (answered_left t (asks_of u ++ rest) ts (regroup (asks_of t) (asks_of u) rest ts h))
    answered_left (tagged tag name closed t) rest ts h = answered_left t rest ts h

    pub answered_left_in : (es : Templates) (rest : List Ask) (ts : List Data) → AreAnswered Answers (asks_in es ++ rest) ts
        → AreAnswered Answers rest (left_in es ts)
    answered_left_in no_templates rest ts h = h
    answered_left_in (template t es) rest ts h =
        answered_left_in es rest (left t ts) (answered_left t (asks_in es ++ rest) ts (regroup (asks_of t) (asks_in es) rest ts h))

-- ---- the document of a map

abbrev pub keys_of : List Keyword → List Text
keys_of es = map (λ e. e.0) es

abbrev pub values_in : List Keyword → List Data
values_in es = map (λ e. e.1) es

references_of-append : (ts us : List Data) → references_of (ts ++ us) ≡ references_of ts ++ references_of us
references_of-append [] us = refl
references_of-append (t ∷ ts) us = ap (λ xs. references t ++ xs) (references_of-append ts us)
    ∙ sym (append_assoc (references t) (references_of ts) (references_of us))

references-map : (es : List Keyword) (ks : List Text) (closed : Bool)
    → references (map_document es ks closed) ≡ found_in_members (put_all es no_members)
unfolding found_in
references-map [] [] false = refl
references-map [] [] true = refl
references-map [] (k ∷ ks) false = refl
references-map [] (k ∷ ks) true = refl
references-map (e ∷ es) [] false = append-nil _
references-map (e ∷ es) [] true = append-nil _
references-map (e ∷ es) (k ∷ ks) false = append-nil _
references-map (e ∷ es) (k ∷ ks) true = append-nil _

references-noted : (notes : List Members) (s : Data) → AllNotes notes → references (noted_by notes s) ≡ references s
references-noted [] s h = refl
references-noted (n ∷ notes) s h = references-annotated n (noted_by notes s) h.0 ∙ references-noted notes s h.1

-- under keys that are all different every value stays
values_stay : (es : List Keyword) (ms : Members) → AreApart (keys_of es) → AreNew (keys_of es) ms
    → Among (found_in_members ms ++ references_of (values_in es)) (found_in_members (put_all es ms))
values_stay [] ms other new x h = subst (λ xs. Contains xs x) (append-nil (found_in_members ms)) h
values_stay (e ∷ es) ms other new x h =
    values_stay es (put e.0 e.1 ms) other.1 (still_new e.0 e.1 (keys_of es) ms other.0 new.1) x
    (among_turn (found_in_members (put e.0 e.1 ms)) (references e.1) (found_in_members ms) (references_of (values_in es))
    (references e.1 ++ references_of (values_in es)) (members-new e.0 e.1 ms new.0) (λ y i. i) x h)

module _ (P : Data → Type 0) where
  halves : (t : Data) (ts : List Data) → All P (references_of (t ∷ ts)) → All P (references t) × All P (references_of ts)
  halves t ts h = (
    All-weak (references t) (λ x i. All-contains P _ x h (among_left (references t) (references_of ts) x i)),
    All-weak (references_of ts) (λ x i. All-contains P _ x h (among_right (references t) (references_of ts) x i)),
  )
    where
      All-weak : (xs : List Data) → ((x : Data) → Contains xs x → P x) → All P xs
      All-weak xs all = λ k d less. all _ (All-contains_itself xs k d less)

  values_hold : (es : List Keyword) (ms : Members) → All P (found_in_members ms) → All P (references_of (values_in es))
      → All P (found_in_members (put_all es ms))
  values_hold [] ms all new = all
  values_hold (e ∷ es) ms all new =
      let parts = halves e.1 (values_in es) new in
      values_hold es (put e.0 e.1 ms) (named-put P e.0 e.1 ms parts.0 all) parts.1

-- whatever the keys are, it has no other references
map_among : (es : List Keyword) (ks : List Text) (closed : Bool)
    → Among (references (map_document es ks closed)) (references_of (values_in es))
unfolding found_in
map_among es ks closed x h =
    All-contains (Contains (references_of (values_in es))) (found_in_members (put_all es no_members)) x
    (values_hold (Contains (references_of (values_in es))) es no_members (All-nil _) (All-contains_itself (references_of (values_in es))))
    (subst (λ xs. Contains xs x) (references-map es ks closed) h)

among_map : (es : List Keyword) (ks : List Text) (closed : Bool) → AreApart (keys_of es)
    → Among (references_of (values_in es)) (references (map_document es ks closed))
unfolding found_in
among_map es ks closed other x h =
    subst (λ xs. Contains xs x) (sym (references-map es ks closed)) (values_stay es no_members other (none_there (keys_of es)) x h)

-- ---- names

abbrev pub names_in : List Field → List Text
names_in xs = map (λ x. x.name) xs

no_name-key : (k : Text) (xs : List Field) → IsNoName k xs → IsNoKey k (names_in xs)
no_name-key k [] h = tt
no_name-key k (x ∷ xs) h = (h.0, no_name-key k xs h.1)

pub names_apart : (xs : List Field) → AreDistinct xs → AreApart (names_in xs)
names_apart [] h = tt
names_apart (x ∷ xs) h = (no_name-key x.name xs h.0, names_apart xs h.1)

no_tag-key : (k tag : Text) (xs : List Field) → bytes_eq tag k ≡ false → IsNoName k xs → IsNoKey k (names_in xs ++ tag ∷ [])
no_tag-key k tag [] other h = (other, tt)
no_tag-key k tag (x ∷ xs) other h = (h.0, no_tag-key k tag xs other h.1)

pub tag_apart : (tag : Text) (xs : List Field) → IsNoName tag xs → AreDistinct xs → AreApart (names_in xs ++ tag ∷ [])
tag_apart tag [] other h = (tt, tt)
tag_apart tag (x ∷ xs) other h = (no_tag-key x.name tag xs (flipped x.name tag other.0) h.0, tag_apart tag xs other.1 h.1)

no_key-first : (k : Text) (ks ls : List Text) → IsNoKey k (ks ++ ls) → IsNoKey k ks
no_key-first k [] ls h = tt
no_key-first k (l ∷ ks) ls h = (h.0, no_key-first k ks ls h.1)

pub apart-first : (ks ls : List Text) → AreApart (ks ++ ls) → AreApart ks
apart-first [] ls h = tt
apart-first (k ∷ ks) ls h = (no_key-first k ks ls h.0, apart-first ks ls h.1)

-- ---- templates that are filled to be maps

-- the filled template is a map with these names, and its values and the answers that are left have all references
pub record HoldsMap (t : Template) (names : List Text) (ts : List Data) : Type 0 where
  pub notes : List Members
  pub are_notes : AllNotes notes
  pub keywords : List Keyword
  pub keys : keys_of keywords ≡ names
  pub required : List Text
  pub closed : Bool
  pub is : filled t ts ≡ noted_by notes (map_document keywords required closed)
  pub kept : Among (references_of ts) (references_of (values_in keywords) ++ references_of (left t ts))

module _ (Answers : Ask → Data → Type 0) where
  -- each reference of the answers is one of the filled template's, or one of those that are left
  abbrev pub Keeps : Template → Type 0
  Keeps t = (rest : List Ask) (ts : List Data) → AreAnswered Answers (asks_of t ++ rest) ts
      → Among (references_of ts) (references (filled t ts) ++ references_of (left t ts))

  abbrev pub IsMapAt : Template → List Text → Type 0
  IsMapAt t names = (rest : List Ask) (ts : List Data) → AreAnswered Answers (asks_of t ++ rest) ts → HoldsMap t names ts

  pub map_keeps : (t : Template) (names : List Text) → IsMapAt t names → AreApart names → Keeps t
  map_keeps t names is other rest ts h =
      let m = is rest ts h in
      let own : references (filled t ts) ≡ references (map_document m.keywords m.required m.closed) =
      ap references m.is ∙ references-noted m.notes _ m.are_notes in
      let values : Among (references_of (values_in m.keywords)) (references (filled t ts)) =
      subst (λ xs. Among (references_of (values_in m.keywords)) xs) (sym own)
      (among_map m.keywords m.required m.closed (subst AreApart (sym m.keys) other)) in
      λ x i. among_append (references_of (values_in m.keywords)) (references_of (left t ts)) (references (filled t ts))
      (references_of (left t ts)) values (λ y j. j) x (m.kept x i)

  -- ---- fields

  abbrev keywords_at : List Field → List Data → List Keyword
  keywords_at xs ts = keyed (map (λ e. e.0) (map property xs)) (filled_in (templates_of (map (λ e. e.1) (map property xs))) ts)

  keys-keywords_at : (xs : List Field) (ts : List Data) → keys_of (keywords_at xs ts) ≡ names_in xs
  keys-keywords_at [] ts = refl
  keys-keywords_at (x ∷ xs) ts = ap (λ ks. x.name ∷ ks) (keys-keywords_at xs (behind ts))

  fields_keep : (xs : List Field) (rest : List Ask) (ts : List Data) → AreNoted xs → AreAnswered Answers (asks_at xs ++ rest) ts
      → Among (references_of ts)
      (references_of (values_in (keywords_at xs ts)) ++ references_of (left_in (templates_of (map (λ e. e.1) (map property xs))) ts))
  fields_keep [] rest ts notes h = λ x i. i
  fields_keep (y ∷ xs) rest [] notes h = absurd h
  fields_keep (y ∷ xs) rest (t ∷ ts) notes h = λ x i.
      let later = references_of (values_in (keywords_at xs ts)) in
      let after = references_of (left_in (templates_of (map (λ e. e.1) (map property xs))) ts) in
      let own = references (annotated y.notes t) in
      subst (λ zs. Contains zs x) (sym (append_assoc own later after))
      (among_append (references t) (references_of ts) own (later ++ after)
      (among_equal (references t) own (sym (references-annotated y.notes t notes.0)))
      (fields_keep xs rest ts notes.1 h.1) x i)

  pub map_holds : (xs : List Field) (ks : List Text) (closed : Bool) → AreNoted xs
      → IsMapAt (map_template (map property xs) (text_items ks) closed) (names_in xs)
  map_holds xs ks closed notes rest ts h = record {
    notes = [];
    are_notes = tt;
    keywords = keywords_at xs ts;
    keys = keys-keywords_at xs ts;
    required = ks;
    closed = closed;
    is = same xs ks closed;
    kept = kept xs ks closed notes h;
  }
    where
      same : (xs : List Field) (ks : List Text) (closed : Bool)
          → filled (map_template (map property xs) (text_items ks) closed) ts ≡ map_document (keywords_at xs ts) ks closed
      same [] [] false = refl
      same [] [] true = refl
      same [] (k ∷ ks) false = refl
      same [] (k ∷ ks) true = refl
      same (x ∷ xs) [] false = refl
      same (x ∷ xs) [] true = refl
      same (x ∷ xs) (k ∷ ks) false = refl
      same (x ∷ xs) (k ∷ ks) true = refl

      one : (x : Field) (xs : List Field) → AreNoted (x ∷ xs) → AreAnswered Answers ((asks_at (x ∷ xs) ++ []) ++ rest) ts
          → Among (references_of ts) (references_of (values_in (keywords_at (x ∷ xs) ts))
          ++ references_of (left_in (templates_of (map (λ e. e.1) (map property (x ∷ xs)))) ts))
      one x xs notes h = fields_keep (x ∷ xs) rest ts notes
          (subst (λ zs. AreAnswered Answers (zs ++ rest) ts) (append-nil (asks_at (x ∷ xs))) h)

      kept : (xs : List Field) (ks : List Text) (closed : Bool) → AreNoted xs
          → AreAnswered Answers (asks_of (map_template (map property xs) (text_items ks) closed) ++ rest) ts
          → Among (references_of ts) (references_of (values_in (keywords_at xs ts))
          ++ references_of (left (map_template (map property xs) (text_items ks) closed) ts))
      kept [] [] false notes h = λ x i. i
      kept [] [] true notes h = λ x i. i
      kept [] (k ∷ ks) false notes h = λ x i. i
      kept [] (k ∷ ks) true notes h = λ x i. i
      kept (x ∷ xs) [] false notes h = one x xs notes h
      kept (x ∷ xs) [] true notes h = one x xs notes h
      kept (x ∷ xs) (k ∷ ks) false notes h = one x xs notes h
      kept (x ∷ xs) (k ∷ ks) true notes h = one x xs notes h

  -- ---- tags

  pub tag_holds : (tag name : Text) (deny : Bool) (t : Template) (names : List Text) → IsMapAt t names
      → IsMapAt (tagged tag name deny t) (names ++ tag ∷ [])
  tag_holds tag name deny t names is rest ts h =
      let m = is rest ts h in
      let here : List Keyword = (tag, unit_variant name) ∷ [] in record {
        notes = m.notes;
        are_notes = m.are_notes;
        keywords = m.keywords ++ here;
        keys = map-append (λ e. e.0) m.keywords here ∙ ap (λ ks. ks ++ tag ∷ []) m.keys;
        required = tag ∷ m.required;
        closed = m.closed;
        is = ap (internally_tagged_variant tag name deny) m.is
            ∙ tagged-map m.notes tag name deny m.keywords m.required m.closed m.are_notes;
        kept = λ x i.
            let values = values_in m.keywords in
            let same : references_of (values_in (m.keywords ++ here)) ≡ references_of values ++ references_of (values_in here) =
            ap references_of (map-append (λ e. e.1) m.keywords here) ∙ references_of-append values (values_in here) in
            among_append (references_of values) (references_of (left t ts)) (references_of (values_in (m.keywords ++ here)))
            (references_of (left t ts))
            (λ y j. subst (λ zs. Contains zs y) (sym same) (among_left (references_of values) (references_of (values_in here)) y j))
            (λ y j. j) x (m.kept x i);
      }

  -- ---- flattened rows

  module _ (rows : List Row) (contract : Contract) (expanded_shape : AnswersFields (flattened_in rows) rows contract Answers) where
    abbrev at : Flattened → Ask
    at p = members_of p.ty (is_required contract p.required)

    keys-fields : (W : Ask → Data → Type 0) (xs : List Field) (ts : List Data) → AreWritten (λ j. W (part j)) xs ts
        → keys_of (field_keywords xs ts) ≡ names_in xs
    keys-fields W [] ts h = refl
    keys-fields W (x ∷ xs) [] h = absurd h
    keys-fields W (x ∷ xs) (t ∷ ts) h = ap (λ ks. x.name ∷ ks) (keys-fields W xs ts h.1)

    -- the fields of one row more
    pub part_holds : (p : Flattened) (t : Template) (names : List Text) → IsMapAt t names → IsPlainPart rows p
        → IsMapAt (with_keywords t (asked (at p))) (names ++ names_in (flattened_in rows p))
    part_holds p t names is plain rest ts h = go (left t ts) refl (answered_left Answers t (at p ∷ rest) ts answers)
      where
        answers : AreAnswered Answers (asks_of t ++ at p ∷ rest) ts
        answers = regroup Answers (asks_of t) (at p ∷ []) rest ts h

        m : HoldsMap t names ts
        m = is (at p ∷ rest) ts answers

        fields : List Field
        fields = flattened_in rows p

        whole : (d : Data) (us : List Data) → left t ts ≡ d ∷ us → IsFieldsDocument (λ j. Answers (part j)) contract fields false d
            → HoldsMap (with_keywords t (asked (at p))) (names ++ names_in fields) ts
        whole d us same f =
            let more = field_keywords fields f.parts in
            let needed = required_names contract fields in record {
              notes = m.notes ++ f.notes;
              are_notes = AllNotes-append m.notes f.notes m.are_notes f.are_notes;
              keywords = m.keywords ++ more;
              keys = map-append (λ e. e.0) m.keywords more
                  ∙ (λ i. m.keys i ++ keys-fields Answers fields f.parts f.written i);
              required = m.required ++ needed;
              closed = m.closed;
              is = (λ i. flattened (m.is i) (first (same i)))
                  ∙ (ap (flattened (noted_by m.notes (map_document m.keywords m.required m.closed))) f.is
                  ∙ (flattened-maps m.notes f.notes m.keywords more m.required needed m.closed m.are_notes f.are_notes
                  ∙ sym (noted_by-append m.notes f.notes _)));
              kept = λ x i.
                  let values = values_in m.keywords in
                  let joined : references_of (values_in (m.keywords ++ more))
                  ≡ references_of values ++ references_of (values_in more) =
                  ap references_of (map-append (λ e. e.1) m.keywords more) ∙ references_of-append values (values_in more) in
                  let own : Among (references d) (references_of (values_in more)) =
                  subst (λ zs. Among zs (references_of (values_in more)))
                  (sym (ap references f.is ∙ references-noted f.notes _ f.are_notes)) (map_among more needed false) in
                  let found : Contains (references_of values ++ (references d ++ references_of us)) x =
                  subst (λ zs. Contains (references_of values ++ references_of zs) x) same (m.kept x i) in
                  let each : Contains (references_of values ++ (references_of (values_in more) ++ references_of us)) x =
                  among_append (references_of values) (references d ++ references_of us) (references_of values)
                  (references_of (values_in more) ++ references_of us) (λ y j. j)
                  (among_append (references d) (references_of us) (references_of (values_in more)) (references_of us) own (λ y j. j))
                  x found in
                  let grouped : Contains ((references_of values ++ references_of (values_in more)) ++ references_of us) x =
                  subst (λ zs. Contains zs x)
                  (sym (append_assoc (references_of values) (references_of (values_in more)) (references_of us))) each in
                  subst (λ zs. Contains zs x)
                  (λ k. sym joined k ++ references_of (behind (sym same k))) grouped;
            }

        go : (us : List Data) → left t ts ≡ us → AreAnswered Answers (at p ∷ rest) us
            → HoldsMap (with_keywords t (asked (at p))) (names ++ names_in fields) ts
        go [] same answer = absurd answer
        go (d ∷ us) same answer =
            whole d us same (expanded_shape p d plain (subst (λ b. Answers (members_of p.ty b) d) (must_be_present rows contract p plain) answer.0))

    abbrev pub spread_names : List Flattened → List Text
    spread_names ps = names_in (flattened_fields (flattened_in rows) ps)

    pub more_names : (p : Flattened) (ps : List Flattened) (names : List Text)
        → (names ++ names_in (flattened_in rows p)) ++ spread_names ps ≡ names ++ spread_names (p ∷ ps)
    more_names p ps names = append_assoc names (names_in (flattened_in rows p)) (spread_names ps)
        ∙ ap (λ ks. names ++ ks) (sym (map-append (λ x. x.name) (flattened_in rows p) (flattened_fields (flattened_in rows) ps)))

    parts_hold : (ps : List Flattened) (t : Template) (names : List Text) → IsMapAt t names → ArePlainParts rows ps
        → IsMapAt (with_flattened contract ps t) (names ++ spread_names ps)
    parts_hold [] t names is plain = subst (IsMapAt t) (sym (append-nil names)) is
    parts_hold (p ∷ ps) t names is plain =
        subst (IsMapAt (with_flattened contract (p ∷ ps) t)) (more_names p ps names)
        (parts_hold ps (with_keywords t (asked (at p))) (names ++ names_in (flattened_in rows p))
        (part_holds p t names is plain.0) plain.1)

    -- the fields of flattened rows among its own
    pub struct_holds : (x : Fields) → AreNoted x.list → ArePlainParts rows x.flatten
        → IsMapAt (struct_template contract x) (names_in (effective (flattened_in rows) x))
    struct_holds x notes plain =
        subst (IsMapAt (struct_template contract x))
        (sym (map-append (λ y. y.name) x.list (flattened_fields (flattened_in rows) x.flatten)))
        (parts_hold x.flatten (fields_template contract x.list x.closed) (names_in x.list)
        (map_holds x.list (required_names contract x.list) x.closed notes) plain)
