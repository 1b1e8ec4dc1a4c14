pub mod CountForms
pub mod MapViews
