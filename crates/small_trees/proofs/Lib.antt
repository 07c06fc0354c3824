mod Added
