mod SpecLeaves
