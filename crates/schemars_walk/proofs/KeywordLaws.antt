-- The keywords of a schema are rewritten each by itself.
use Rattle.std.proofs.Common.{◌≡◌, Option, Some, option_map, Ordering, Less, Equal, Greater, nat_cmp, is_eq, refl, sym, ap, ◌∙◌, subst}
use Rattle.schemars_walk.proofs.Words.{is_eq-slice_cmp, bytes_eq-Decides, slice_cmp, match_ordering, Data, Members, no_members, member, put, get_member, Text, NoSchemas, Rules, form_at, forms, in_keywords, read_at}
use Rattle.schemars_walk.proofs.Rewrites.{keywords_more, keywords_none}

same_key : (k l : Text) → slice_cmp nat_cmp k l ≡ Equal → k ≡ l
same_key k l is = (bytes_eq-Decides k l).0 (sym (is_eq-slice_cmp k l) ∙ ap is_eq is)

module _ {R : Type 0} (ρ : Rules R) (r : R) where
  alone : (k : Text) (d : Data) (ms : Members) → ρ.place r k d ≡ NoSchemas
      → in_keywords ρ r (member k d ms) ≡ member k d (in_keywords ρ r ms)
  alone k d ms h = keywords_more ρ r k d ms ∙ ap (λ p. member k (form_at p d (forms ρ r d)) (in_keywords ρ r ms)) h

  put_at : (o : Ordering) (k l : Text) (d e : Data) (ms : Members) → ((x : Data) → ρ.place r k x ≡ NoSchemas)
      → slice_cmp nat_cmp k l ≡ o → in_keywords ρ r (put k d ms) ≡ put k d (in_keywords ρ r ms)
      → in_keywords ρ r (match_ordering o (member k d (member l e ms)) (member l d ms) (member l e (put k d ms)))
      ≡ match_ordering o (member k d (in_keywords ρ r (member l e ms))) (member l d (in_keywords ρ r ms)) (member l (form_at (ρ.place r l
      e) e (forms ρ r e)) (put k d (in_keywords ρ r ms)))
  put_at Less k l d e ms h is later = alone k d (member l e ms) (h d)
  put_at Equal k l d e ms h is later = alone l d ms (subst (λ x. ρ.place r x d ≡ NoSchemas) (same_key k l is) (h d))
  put_at Greater k l d e ms h is later = keywords_more ρ r l e (put k d ms) ∙ ap (member l (form_at (ρ.place r l e) e (forms ρ r e))) later

  pub keywords_put : (k : Text) (d : Data) (ms : Members) → ((x : Data) → ρ.place r k x ≡ NoSchemas)
      → in_keywords ρ r (put k d ms) ≡ put k d (in_keywords ρ r ms)
  keywords_put k d no_members h = alone k d no_members (h d) ∙ rw (keywords_none ρ r)
  keywords_put k d (member l e ms) h =
      put_at (slice_cmp nat_cmp k l) k l d e ms h refl (keywords_put k d ms h)
      ∙ rw (keywords_more ρ r l e ms)

  get_at : (o : Ordering) (k l : Text) (e : Data) (found : Option Data) → slice_cmp nat_cmp k l ≡ o
      → match_ordering o (option_map (λ d. read_at ρ (ρ.place r k d) r d) found) (Some (form_at (ρ.place r l e) e (forms ρ r e)))
      (option_map (λ d. read_at ρ (ρ.place r k d) r d) found)
      ≡ option_map (λ d. read_at ρ (ρ.place r k d) r d) (match_ordering o found (Some e) found)
  get_at Less k l e found is = refl
  get_at Equal k l e found is = ap (λ x. Some (form_at (ρ.place r x e) e (forms ρ r e))) (sym (same_key k l is))
  get_at Greater k l e found is = refl

  pub keywords_get : (k : Text) (ms : Members) → get_member k (in_keywords ρ r ms) ≡ option_map (λ d. read_at ρ (ρ.place r k d) r d)
      (get_member k ms)
  keywords_get k no_members = rw (keywords_none ρ r)
  keywords_get k (member l e ms) =
      rw (keywords_more ρ r l e ms) (rw (keywords_get k ms) (get_at (slice_cmp nat_cmp k l) k l e (get_member k ms) refl))
