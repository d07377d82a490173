-- Only the contracts of private functions cite these: no public contract and no theorem does.
-- What the listing shows of a member as one record, and the fields that its writers put.
-- Assumes nothing.
use Rattle.std.specs.Prelude.{cond, List, [], ◌∷◌, ◌++◌, ℕ, replicate}
use Rattle.text.specs.Write.{decimal}
use Rattle.allotment.specs.Allotment.{owners_of}
use Rattle.site.specs.Members.{is_live, state_of}
use Rattle.site.specs.Model.{Member}
use Rattle.site.specs.declared.State.{State}
use Rattle.desk.specs.listing.Rows.{state_text, shown, row_line}
use Rattle.desk.specs.declared.Shown.{Shown}

-- a row from what it shows, and the owners of its slots
unfoldable pub shown_row : ℕ → Shown → List ℕ → List ℕ
shown_row j s o = row_line j s.state s.version s.flags s.request o

-- what the listing shows of a member before its slots
abbrev pub shown_of : Member → Shown
shown_of m =
    record {
      state = state_of m;
      version = shown m m.node.version;
      flags = shown m m.node.flags;
      request = shown m m.node.request;
    }

-- the owners of all slots that it shows
abbrev pub owners_live : Member → List ℕ
owners_live m = cond (is_live m) (owners_of m.node.schedule) (replicate 80 0)

-- a field: a number and the space behind it
abbrev pub field : ℕ → List ℕ
field x = decimal x ++ (32 ∷ [])

-- a state and the space behind it
abbrev pub state_field : State → List ℕ
state_field s = state_text s ++ (32 ∷ [])
